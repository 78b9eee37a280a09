-- A script of a sender: the list of values that a file's bytes send, or its first faulty line.
--
-- Each line ends with a line feed, which the last may lack. Lines are numbered from 1, those that
-- send nothing too.
-- Source: this project's own.
use Rattle.std.specs.Prelude.{ℕ, ◌+◌, List, [], ◌∷◌, Option, Some, None, Result, Ok, Err}
use Rattle.line_texts.specs.Lines.{lines_of}
use Rattle.script_files.specs.MailLine.{reading_of}
use Rattle.script_files.specs.declared.mail_fault.MailFault.{MailFault}
use Rattle.script_files.specs.declared.mail_fault.MailKind.{MailKind}

-- a line's value comes before those of the lines after it
abbrev pub before : Option ℕ → Result (List ℕ) MailFault → Result (List ℕ) MailFault
before None later = later
before (Some value) (Ok values) = Ok (value ∷ values)
before (Some value) (Err fault) = Err fault

-- the reading of the line that has this number
abbrev pub numbered : ℕ → Result (Option ℕ) MailKind → Result (Option ℕ) MailFault
numbered number (Ok sent) = Ok sent
numbered number (Err kind) = Err (record { line = number; kind = kind })

-- the reading of one line, and then that of those after it
abbrev pub with_line : Result (Option ℕ) MailFault → Result (List ℕ) MailFault
    → Result (List ℕ) MailFault
with_line (Ok sent) later = before sent later
with_line (Err fault) later = Err fault

-- the values of the lines, of which the first has this number
abbrev pub values_from : ℕ → List (List ℕ) → Result (List ℕ) MailFault
values_from number [] = Ok []
values_from number (line ∷ lines) =
    with_line (numbered number (reading_of line)) (values_from (number + 1) lines)

-- the script
abbrev pub script_of : List ℕ → Result (List ℕ) MailFault
script_of bytes = values_from 1 (lines_of bytes)
