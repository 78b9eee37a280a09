-- One line of a script: the command that it holds, if it holds one, or what is at fault in it.
--
-- A line that does not count holds no command. In every other line the faults are looked for from
-- the left to the right, after those of single bytes, and the first one counts.
-- Source: this project's own.
use Rattle.std.specs.Prelude.{ℕ, not, List, [], ◌∷◌, length, drop, nat_le, if◌then◌else◌, Option}
use Rattle.std.specs.Prelude.{Some, None, Result, Ok, Err, ok_or}
use Rattle.std.specs.List.{list_all}
use Rattle.std.specs.Str.Lines.{strip_carriage_return}
use Rattle.line_texts.specs.Cut.{word_of, rest_of, next_word_of, next_rest_of}
use Rattle.line_texts.specs.Line.{counts, is_plain_byte}
use Rattle.line_texts.specs.Numbers.{digits_of}
use Rattle.quoted_text.specs.Quoted.{unquoted_of}
use Rattle.doc_tree.specs.Words.{path_of}
use Rattle.doc_model.specs.declared.command.Command.{Command}
use Rattle.doc_model.specs.declared.command.Command.TheVariants as commands
use Rattle.cmd_text.specs.Verb.{verb_of}
use Rattle.cmd_text.specs.declared.fault.ScriptKind.{ScriptKind}
use Rattle.cmd_text.specs.declared.fault.ScriptKind.TheVariants.{BadByte, NoCommand, BadNumber}
use Rattle.cmd_text.specs.declared.fault.ScriptKind.TheVariants.{BadPath, NoQuote, LongText}
use Rattle.cmd_text.specs.declared.fault.ScriptKind.TheVariants.{Extra}
use Rattle.cmd_text.specs.declared.form.Form.{Form}
use Rattle.cmd_text.specs.declared.form.Form.TheVariants.{Plain, Quoted}
use Rattle.cmd_text.specs.declared.verb.Verb.{Verb}
use Rattle.cmd_text.specs.declared.verb.Verb.TheVariants as verbs

-- what the reading of a first part, where it has no fault, is followed by
abbrev pub and_then : {A B : Type 0} → Result A ScriptKind → (A → Result B ScriptKind)
    → Result B ScriptKind
and_then (Ok part) later = later part
and_then (Err kind) later = Err kind

-- what was read, where the line ends here
abbrev pub at_end : {A : Type 0} → List ℕ → A → Result A ScriptKind
at_end [] part = Ok part
at_end (byte ∷ bytes) part = Err Extra

-- the path that is the next word
abbrev pub path_in : List ℕ → Result (List (List ℕ)) ScriptKind
path_in rest = ok_or (path_of (next_word_of rest)) BadPath

-- a path, and nothing after it
abbrev pub last_path_in : List ℕ → Result (List (List ℕ)) ScriptKind
last_path_in rest = and_then (path_in rest) (λ path. at_end (next_rest_of rest) path)

-- a text of at most 4,096 bytes
abbrev pub short_text : List ℕ → Result (List ℕ) ScriptKind
short_text text = if nat_le (length text) 4096 then Ok text else Err LongText

-- the text that is all that follows the space, or whose quoted text that is
abbrev pub text_in : Form → List ℕ → Result (List ℕ) ScriptKind
text_in Plain rest = short_text (drop 1 rest)
text_in Quoted rest = and_then (ok_or (unquoted_of (drop 1 rest)) NoQuote) short_text

-- the number that is the next word, of 1 to 7 digits
abbrev pub number_in : List ℕ → Result ℕ ScriptKind
number_in rest = ok_or (digits_of 7 (next_word_of rest)) BadNumber

-- a path, and a text up to the end
abbrev pub path_and_text_in : Form → List ℕ → Result (List (List ℕ) × List ℕ) ScriptKind
path_and_text_in form rest =
    and_then (path_in rest) (λ path.
    and_then (text_in form (next_rest_of rest)) (λ text.
    Ok (path, text)))

-- two paths, and nothing after them
abbrev pub two_paths_in : List ℕ → Result (List (List ℕ) × List (List ℕ)) ScriptKind
two_paths_in rest =
    and_then (path_in rest) (λ from.
    and_then (last_path_in (next_rest_of rest)) (λ to.
    Ok (from, to)))

-- a number and a path, and nothing after them
abbrev pub number_and_path_in : List ℕ → Result (ℕ × List (List ℕ)) ScriptKind
number_and_path_in rest =
    and_then (number_in rest) (λ number.
    and_then (last_path_in (next_rest_of rest)) (λ path.
    Ok (number, path)))

-- what each command has after its first word, with its text in this form
abbrev pub arguments_in : Form → Verb → List ℕ → Result Command ScriptKind
arguments_in form verbs.Put rest =
    and_then (path_and_text_in form rest) (λ p. Ok (commands.Put p.0 p.1))
arguments_in form verbs.Del rest = and_then (last_path_in rest) (λ path. Ok (commands.Del path))
arguments_in form verbs.Copy rest = and_then (two_paths_in rest) (λ p. Ok (commands.Copy p.0 p.1))
arguments_in form verbs.Get rest = and_then (last_path_in rest) (λ path. Ok (commands.Get path))
arguments_in form verbs.List rest = and_then (last_path_in rest) (λ path. Ok (commands.List path))
arguments_in form verbs.Size rest = and_then (last_path_in rest) (λ path. Ok (commands.Size path))
arguments_in form verbs.Old rest =
    and_then (number_and_path_in rest) (λ p. Ok (commands.Old p.0 p.1))
arguments_in form verbs.DraftPut rest =
    and_then (path_and_text_in form rest) (λ p. Ok (commands.DraftPut p.0 p.1))
arguments_in form verbs.DraftGet rest =
    and_then (last_path_in rest) (λ path. Ok (commands.DraftGet path))
arguments_in form verbs.Take rest = and_then (last_path_in rest) (λ path. Ok (commands.Take path))
arguments_in form verbs.Publish rest =
    and_then (last_path_in rest) (λ path. Ok (commands.Publish path))

-- the command of a line that holds one
abbrev pub command_of : List ℕ → Result Command ScriptKind
command_of line =
    and_then (ok_or (verb_of (word_of line)) NoCommand) (λ verb.
    arguments_in Plain verb (rest_of line))

-- the reading of a line without its end
abbrev pub bare_reading_of : List ℕ → Result (Option Command) ScriptKind
bare_reading_of line =
    if not (counts line) then Ok None
    else if not (list_all is_plain_byte line) then Err BadByte
    else and_then (command_of line) (λ command. Ok (Some command))

-- the reading of a line
abbrev pub reading_of : List ℕ → Result (Option Command) ScriptKind
reading_of bytes = bare_reading_of (strip_carriage_return bytes)
