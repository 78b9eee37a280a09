-- One line of a script of version 2: what it holds, if it holds something, or what is at fault in
-- it.
--
-- Such a line holds a command, or begins a batch or ends one, or is an edit of the batch that it
-- stands in. As in version 1, the first fault from the left to the right counts, after those of
-- single bytes. Whether the word may stand where it does is looked at after the word itself.
-- Source: this project's own.
use Rattle.std.specs.Prelude.{ℕ, Bool, true, false, not, ◌||◌, List, codes, bytes_eq}
use Rattle.std.specs.Prelude.{if◌then◌else◌, Option, Some, None, Result, Ok, Err, ok_or}
use Rattle.std.specs.List.{list_all}
use Rattle.std.specs.Str.Lines.{strip_carriage_return}
use Rattle.line_texts.specs.Cut.{rest_of, word_of}
use Rattle.line_texts.specs.Line.{counts, is_plain_byte}
use Rattle.doc_model.specs.declared.command.Command.{Command}
use Rattle.doc_model.specs.declared.command.Command.TheVariants as commands
use Rattle.doc_model.specs.declared.edits.Edit.{Edit}
use Rattle.doc_model.specs.declared.edits.Edit.TheVariants as edits
use Rattle.cmd_text.specs.Line.{and_then, arguments_in, at_end}
use Rattle.cmd_text.specs.Verb.{verb_of}
use Rattle.cmd_text.specs.declared.fault.ScriptKind.{ScriptKind}
use Rattle.cmd_text.specs.declared.fault.ScriptKind.TheVariants.{BadByte, NoBatch, NoCommand}
use Rattle.cmd_text.specs.declared.form.Form.TheVariants.{Quoted}
use Rattle.cmd_text.specs.declared.held.Held.{Held}
use Rattle.cmd_text.specs.declared.held.Held.TheVariants as held
use Rattle.cmd_text.specs.declared.verb.Verb.{Verb}
use Rattle.cmd_text.specs.declared.verb.Verb.TheVariants as verbs
use Rattle.cmd_text.specs.declared.word.Word.{Word}
use Rattle.cmd_text.specs.declared.word.Word.TheVariants as words

-- a command's word
abbrev pub leading_verb : Option Verb → Option Word
leading_verb None = None
leading_verb (Some verb) = Some (words.Verb verb)

-- what a line does that begins with this word
abbrev pub leading_of : List ℕ → Option Word
leading_of word =
    if bytes_eq word (codes "begin") then Some words.Begin
    else if bytes_eq word (codes "commit") then Some words.Commit
    else leading_verb (verb_of word)

-- the commands that are edits inside a batch
abbrev pub is_edit_verb : Verb → Bool
is_edit_verb verbs.Put = true
is_edit_verb verbs.Del = true
is_edit_verb verbs.Copy = true
is_edit_verb verbs.Get = false
is_edit_verb verbs.List = false
is_edit_verb verbs.Size = false
is_edit_verb verbs.Old = false
is_edit_verb verbs.DraftPut = false
is_edit_verb verbs.DraftGet = false
is_edit_verb verbs.Take = false
is_edit_verb verbs.Publish = true

-- the word may stand there: inside a batch, or outside
abbrev pub is_placed : Bool → Word → Bool
is_placed inside words.Begin = not inside
is_placed inside words.Commit = inside
is_placed inside (words.Verb verb) = not inside || is_edit_verb verb

-- the edit that is written as this command is
abbrev pub edit_of : Command → Option Edit
edit_of (commands.Put path text) = Some (edits.Put path text)
edit_of (commands.Del path) = Some (edits.Del path)
edit_of (commands.Copy from to) = Some (edits.Copy from to)
edit_of (commands.Get path) = None
edit_of (commands.List path) = None
edit_of (commands.Size path) = None
edit_of (commands.Old back path) = None
edit_of (commands.DraftPut path text) = None
edit_of (commands.DraftGet path) = None
edit_of (commands.Take path) = None
edit_of (commands.Publish path) = Some (edits.Publish path)
edit_of (commands.Batch list) = None

-- an edit, if it is one
abbrev pub as_edit : Option Edit → Result Held ScriptKind
as_edit None = Err NoBatch
as_edit (Some edit) = Ok (held.Edit edit)

-- what a command is there
abbrev pub within : Bool → Command → Result Held ScriptKind
within true command = as_edit (edit_of command)
within false command = Ok (held.Command command)

-- what a line holds with this word at its front
abbrev pub held_in : Bool → Word → List ℕ → Result Held ScriptKind
held_in inside words.Begin rest = at_end rest held.Begin
held_in inside words.Commit rest = at_end rest held.Commit
held_in inside (words.Verb verb) rest = and_then (arguments_in Quoted verb rest) (within inside)

-- a word that stands where it may
abbrev pub placed : Bool → Word → Result Word ScriptKind
placed inside word = if is_placed inside word then Ok word else Err NoBatch

-- what a line holds that holds something
abbrev pub held_of : Bool → List ℕ → Result Held ScriptKind
held_of inside line =
    and_then (ok_or (leading_of (word_of line)) NoCommand) (λ word.
    and_then (placed inside word) (λ fit.
    held_in inside fit (rest_of line)))

-- the reading of a line without its end
abbrev pub bare_second_reading_of : Bool → List ℕ → Result (Option Held) ScriptKind
bare_second_reading_of inside line =
    if not (counts line) then Ok None
    else if not (list_all is_plain_byte line) then Err BadByte
    else and_then (held_of inside line) (λ what. Ok (Some what))

-- the reading of a line, inside a batch or outside
abbrev pub second_reading_of : Bool → List ℕ → Result (Option Held) ScriptKind
second_reading_of inside bytes = bare_second_reading_of inside (strip_carriage_return bytes)
