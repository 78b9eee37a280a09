-- One line of a heap file without its line feed: what it holds, or what is at fault in it.
--
-- The line of a cell is its number, its colour and six fields, parted by single spaces: `-` is
-- null, `=N` a number below 2 ^ 62, `@N` a cell. No number has a zero before it.
-- Source: this project's own.
use Rattle.std.specs.Prelude.{ℕ, zero, suc, Bool, not, ◌&&◌, ◌==◌, ◌^◌, List, [], ◌∷◌}
use Rattle.std.specs.Prelude.{Option, Some, None, Result, Ok, Err, take, drop, nat_le, nat_lt}
use Rattle.std.specs.Prelude.{codes, bytes_eq, if◌then◌else◌}
use Rattle.cell_words.specs.declared.colours.Colour.{Colour}
use Rattle.cell_words.specs.declared.colours.Colour.TheVariants as colour
use Rattle.cell_words.specs.declared.controls.TheConstants.{GREATEST_POSITION}
use Rattle.cell_words.specs.declared.fields.Field.{Field}
use Rattle.cell_words.specs.declared.fields.Field.TheVariants as field
use Rattle.line_texts.specs.Cut.{next_rest_of, next_word_of, rest_of, word_of}
use Rattle.line_texts.specs.Lines.{is_missing}
use Rattle.line_texts.specs.Numbers.{decimal_of}
use Rattle.image_files.specs.declared.fault.ImageKind.{ImageKind}
use Rattle.image_files.specs.declared.fault.ImageKind.TheVariants.{BadEnd, BadLine}
use Rattle.image_files.specs.declared.line.CellLine.{CellLine}
use Rattle.image_files.specs.declared.line.Held.{Held}
use Rattle.image_files.specs.declared.line.Held.TheVariants as held

-- how many cells a heap may have
abbrev pub sized : Option ℕ → Option ℕ
sized None = None
sized (Some n) = if nat_le 64 n && nat_le n GREATEST_POSITION then Some n else None

-- the number of cells in a head
abbrev pub head_of : List ℕ → Option ℕ
head_of line =
    if bytes_eq (take 8 line) (codes "image 1 ") then sized (decimal_of 7 (drop 8 line)) else None

-- a cell that there is
abbrev pub below : ℕ → Option ℕ → Option ℕ
below size None = None
below size (Some c) = if nat_lt c size then Some c else None

-- the colour of a cell in use
abbrev pub colour_in : List ℕ → Option Colour
colour_in word =
    if bytes_eq word (codes "white") then Some colour.White
    else if bytes_eq word (codes "gray") then Some colour.Gray
    else if bytes_eq word (codes "black") then Some colour.Black
    else None

abbrev pub null_in : List ℕ → Option Field
null_in [] = Some field.Null
null_in (byte ∷ bytes) = None

abbrev pub number_in : Option ℕ → Option Field
number_in None = None
number_in (Some n) = if nat_lt n (2 ^ 62) then Some (field.Num n) else None

abbrev pub name_in : Option ℕ → Option Field
name_in None = None
name_in (Some c) = Some (field.Cell c)

-- the field, if it names no cell past the last
abbrev pub kept : ℕ → Field → Option Field
kept size field.Null = Some field.Null
kept size (field.Num n) = Some (field.Num n)
kept size (field.Cell c) = name_in (below size (Some c))

-- the field that a word is, in a heap with so many cells
abbrev pub field_in : ℕ → List ℕ → Option Field
field_in size [] = None
field_in size (byte ∷ digits) =
    if byte == 45 then null_in digits
    else if byte == 61 then number_in (decimal_of 19 digits)
    else if byte == 64 then name_in (below size (decimal_of 19 digits))
    else None

-- one field more
abbrev pub with_field : Option Field → Option (List Field) → Option (List Field)
with_field None fields = None
with_field (Some f) None = None
with_field (Some f) (Some fields) = Some (f ∷ fields)

-- so many fields, each after a space, and nothing more
abbrev pub fields_in : ℕ → ℕ → List ℕ → Option (List Field)
fields_in size zero [] = Some []
fields_in size zero (byte ∷ bytes) = None
fields_in size (suc i) rest =
    with_field (field_in size (next_word_of rest)) (fields_in size i (next_rest_of rest))

abbrev pub cell_with : Option ℕ → Option Colour → Option (List Field) → Option CellLine
cell_with None colour fields = None
cell_with (Some c) None fields = None
cell_with (Some c) (Some colour) None = None
cell_with (Some c) (Some colour) (Some fields) =
    Some (record { cell = c; colour = colour; fields = fields })

-- the cell of a line, in a heap with so many
abbrev pub cell_in : ℕ → List ℕ → Option CellLine
cell_in size line =
    cell_with (below size (decimal_of 19 (word_of line))) (colour_in (next_word_of (rest_of line)))
    (fields_in size 6 (next_rest_of (rest_of line)))

abbrev pub held_or : Option CellLine → Result Held ImageKind
held_or None = Err BadLine
held_or (Some l) = Ok (held.Cell l)

-- a line behind the head, with its line feed or without one
abbrev pub line_of : ℕ → Bool → List ℕ → Result Held ImageKind
line_of size has_feed line =
    if is_missing has_feed line then Err BadEnd
    else if not has_feed then Err BadLine
    else if bytes_eq line (codes "end") then Ok held.End
    else held_or (cell_in size line)
