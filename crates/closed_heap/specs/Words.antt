-- What a field says by itself.
-- Source: this project's.
use Rattle.std.specs.Prelude.{ℕ}
use Rattle.cell_words.specs.declared.fields.Field.{Field}
use Rattle.cell_words.specs.declared.fields.Field.TheVariants as field

-- the number that it is; 0 where it is none
abbrev pub number_in : Field → ℕ
number_in field.Null = 0
number_in (field.Num n) = n
number_in (field.Cell c) = 0
