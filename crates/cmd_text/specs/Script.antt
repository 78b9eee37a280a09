-- A script of version 1: the list of commands that a file's bytes are, or its first faulty line.
--
-- Each line ends with a line feed, which the last may lack. Lines are numbered from 1, those
-- without a command too.
-- Source: this project's own.
use Rattle.std.specs.Prelude.{ℕ, ◌+◌, List, [], ◌∷◌, Option, Some, None, Result, Ok, Err}
use Rattle.line_texts.specs.Lines.{lines_of}
use Rattle.doc_model.specs.declared.command.Command.{Command}
use Rattle.cmd_text.specs.Line.{reading_of}
use Rattle.cmd_text.specs.declared.fault.ScriptFault.{ScriptFault}
use Rattle.cmd_text.specs.declared.fault.ScriptKind.{ScriptKind}

-- a line's command comes before those of the lines after it
abbrev pub before : Option Command → Result (List Command) ScriptFault
    → Result (List Command) ScriptFault
before None later = later
before (Some command) (Ok commands) = Ok (command ∷ commands)
before (Some command) (Err fault) = Err fault

-- the reading of one line, and then that of those after it
abbrev pub with_line : ℕ → Result (Option Command) ScriptKind → Result (List Command) ScriptFault
    → Result (List Command) ScriptFault
with_line number (Ok command) later = before command later
with_line number (Err kind) later = Err (record { line = number; kind = kind })

-- the commands of the lines, of which the first has this number
abbrev pub commands_from : ℕ → List (List ℕ) → Result (List Command) ScriptFault
commands_from number [] = Ok []
commands_from number (line ∷ lines) =
    with_line number (reading_of line) (commands_from (number + 1) lines)

-- the script
abbrev pub first_script_of : List ℕ → Result (List Command) ScriptFault
first_script_of bytes = commands_from 1 (lines_of bytes)
