-- Colours and fields as text.
-- Source: this project's.
use Rattle.std.specs.Prelude.{ℕ, List, ◌++◌, codes, decimal}
use Rattle.cell_words.specs.declared.colours.Colour.{Colour}
use Rattle.cell_words.specs.declared.colours.Colour.TheVariants as colour
use Rattle.cell_words.specs.declared.fields.Field.{Field}
use Rattle.cell_words.specs.declared.fields.Field.TheVariants as field

abbrev pub colour_text : Colour → List ℕ
colour_text colour.Blue = codes "blue"
colour_text colour.White = codes "white"
colour_text colour.Gray = codes "gray"
colour_text colour.Black = codes "black"

-- null, a number or a cell
abbrev pub field_text : Field → List ℕ
field_text field.Null = codes "-"
field_text (field.Num n) = codes "=" ++ decimal n
field_text (field.Cell c) = codes "@" ++ decimal c
