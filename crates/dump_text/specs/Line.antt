-- One line of a dump without its line feed: what it holds, or what is at fault in it.
-- Source: this project's own.
use Rattle.std.specs.Prelude.{ℕ, Bool, true, false, ◌&&◌, ◌||◌, List, [], ◌∷◌, Option, Some}
use Rattle.std.specs.Prelude.{None, Result, Ok, Err, ok_or, take, drop, nat_le, codes, bytes_eq}
use Rattle.std.specs.Prelude.{if◌then◌else◌}
use Rattle.std.specs.Char.{is_ascii_digit}
use Rattle.std.specs.Option.{option_and_then}
use Rattle.doc_tree.specs.Words.{path_of, text_of}
use Rattle.line_texts.specs.Cut.{rest_of, word_of}
use Rattle.line_texts.specs.Lines.{is_missing}
use Rattle.line_texts.specs.Numbers.{decimal_of}
use Rattle.quoted_text.specs.Quoted.{unquoted_of}
use Rattle.dump_text.specs.Dump.{end_text}
use Rattle.dump_text.specs.declared.fault.LoadKind.{LoadKind}
use Rattle.dump_text.specs.declared.fault.LoadKind.TheVariants.{BadEnd, BadLine}
use Rattle.dump_text.specs.declared.line.Held.{Held}
use Rattle.dump_text.specs.declared.line.Held.TheVariants as held

-- a version's number is at most a million
abbrev pub low_version : Option ℕ → Option ℕ
low_version None = None
low_version (Some v) = if nat_le v 1_000_000 then Some v else None

-- the number in a head
abbrev pub head_of : List ℕ → Option ℕ
head_of line =
    if bytes_eq (take 12 line) (codes "docs-dump 1 ")
    then low_version (decimal_of 7 (drop 12 line))
    else None

-- the text that is quoted so
abbrev pub text_in : List ℕ → Option (List ℕ)
text_in bytes = option_and_then text_of (unquoted_of bytes)

-- the text of a root line
abbrev pub root_in : List ℕ → Option (List ℕ)
root_in line = if bytes_eq (take 2 line) (codes ". ") then text_in (drop 2 line) else None

abbrev pub node_with : Option (List (List ℕ)) → Option (List ℕ) → Option Held
node_with None text = None
node_with (Some path) None = None
node_with (Some path) (Some text) = Some (held.Node path text)

-- the path and the text of a node line
abbrev pub node_in : List ℕ → Option Held
node_in line = node_with (path_of (word_of line)) (text_in (drop 1 (rest_of line)))

abbrev pub begins_digit : List ℕ → Bool
begins_digit [] = false
begins_digit (byte ∷ bytes) = is_ascii_digit byte

-- the line begins with `end`, a space and a digit
abbrev pub begins_end : List ℕ → Bool
begins_end line = bytes_eq (word_of line) (codes "end") && begins_digit (drop 1 (rest_of line))

-- a line with its line feed alone holds something
abbrev pub with_feed : {A : Type 0} → Bool → Option A → Result A LoadKind
with_feed true what = ok_or what BadLine
with_feed false what = Err BadLine

-- the end after so many node lines
abbrev pub end_in : ℕ → Bool → List ℕ → Result Held LoadKind
end_in nodes has_feed line =
    if has_feed && bytes_eq line (end_text nodes) then Ok held.End else Err BadEnd

-- a line after so many node lines, with its line feed or without one
abbrev pub line_of : ℕ → Bool → List ℕ → Result Held LoadKind
line_of nodes has_feed line =
    if is_missing has_feed line then Err BadEnd
    else if begins_end line then end_in nodes has_feed line
    else with_feed has_feed (node_in line)

-- the line where the root is due
abbrev pub root_line_of : Bool → List ℕ → Result (List ℕ) LoadKind
root_line_of has_feed line =
    if is_missing has_feed line || begins_end line then Err BadEnd
    else with_feed has_feed (root_in line)
