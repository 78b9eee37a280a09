-- The word of one field of a cell, and the numbers that stand for a cell's kind.
--
-- The two low bits say which of the three a field is, and the bits above hold the number or the
-- index.
-- Source: this project's layout of a word.
use Rattle.std.specs.Prelude.{ℕ, ◌≡◌, ◌+◌, ◌*◌, ◌^◌, ◌<◌}
use Rattle.cell_words.specs.declared.fields.Field.{Field}
use Rattle.cell_words.specs.declared.fields.Field.TheVariants as fields

-- the word of a field
abbrev pub pack_field_of : Field → ℕ
pack_field_of fields.Null = 0
pack_field_of (fields.Num n) = 4 * n + 1
pack_field_of (fields.Cell c) = 4 * c + 2

-- the field has a word: a number below 2^62, the index of a cell below 2^32
abbrev pub IsValidField : Field → Type 0
IsValidField fields.Null = Unit {0}
IsValidField (fields.Num n) = n < 2 ^ 62
IsValidField (fields.Cell c) = c < 2 ^ 32

-- the word is some field's
abbrev pub IsFieldWord : ℕ → Type 0
IsFieldWord word = (field : Field) × IsValidField field × (pack_field_of field ≡ word)
