-- One line of a script of a sender: the value that it sends, if it sends one, or what is at fault
-- in it.
--
-- A line that does not count sends nothing. In every other line the faults are looked for from the
-- left to the right, after those of single bytes, and the first one counts.
-- Source: this project's own.
use Rattle.std.specs.Prelude.{ℕ, not, ◌^◌, List, [], ◌∷◌, bytes_eq, codes, nat_lt, if◌then◌else◌}
use Rattle.std.specs.Prelude.{Option, Some, None, Result, Ok, Err, ok_or}
use Rattle.std.specs.List.{list_all}
use Rattle.std.specs.Str.Lines.{strip_carriage_return}
use Rattle.line_texts.specs.Cut.{word_of, rest_of, next_word_of, next_rest_of}
use Rattle.line_texts.specs.Line.{counts, is_plain_byte}
use Rattle.line_texts.specs.Numbers.{digits_of}
use Rattle.script_files.specs.declared.mail_fault.MailKind.{MailKind}
use Rattle.script_files.specs.declared.mail_fault.MailKind.TheVariants.{BadByte, BadNumber}
use Rattle.script_files.specs.declared.mail_fault.MailKind.TheVariants.{NoCommand}
use Rattle.script_files.specs.declared.mail_fault.MailKind.TheVariants.{Extra}

-- a number that fits a value
abbrev pub fitting : Option ℕ → Option ℕ
fitting None = None
fitting (Some number) = if nat_lt number 4294967296 then Some number else None

-- the value that a word of 1 to 10 digits is
abbrev pub number_in : List ℕ → Option ℕ
number_in word = fitting (digits_of 10 word)

-- what was read, where the line ends here
abbrev pub at_end : List ℕ → Result ℕ MailKind → Result ℕ MailKind
at_end rest (Err kind) = Err kind
at_end [] (Ok value) = Ok value
at_end (byte ∷ bytes) (Ok value) = Err Extra

-- the value after the first word, and nothing more
abbrev pub value_in : List ℕ → Result ℕ MailKind
value_in rest = at_end (next_rest_of rest) (ok_or (number_in (next_word_of rest)) BadNumber)

-- the value of a line that sends one
abbrev pub value_of : List ℕ → Result ℕ MailKind
value_of line =
    if bytes_eq (word_of line) (codes "send") then value_in (rest_of line) else Err NoCommand

-- a value that is sent
abbrev pub sent : Result ℕ MailKind → Result (Option ℕ) MailKind
sent (Ok value) = Ok (Some value)
sent (Err kind) = Err kind

-- the reading of a line without its end
abbrev pub bare_reading_of : List ℕ → Result (Option ℕ) MailKind
bare_reading_of line =
    if not (counts line) then Ok None
    else if not (list_all is_plain_byte line) then Err BadByte
    else sent (value_of line)

-- the reading of a line
abbrev pub reading_of : List ℕ → Result (Option ℕ) MailKind
reading_of bytes = bare_reading_of (strip_carriage_return bytes)
