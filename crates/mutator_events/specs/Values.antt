-- What the values that a mutator gives and gets stand for, by its held list.
-- Source: this project's.
use Rattle.std.specs.Prelude.{ℕ, Bool, true, nat_lt, ◌^◌, List, [], ◌∷◌, ◌++◌, slice_index_or}
use Rattle.std.specs.Prelude.{take, drop}
use Rattle.cell_words.specs.declared.fields.Field.{Field}
use Rattle.cell_words.specs.declared.fields.Field.TheVariants as field
use Rattle.core_machine.specs.declared.places.Held.{Held}
use Rattle.core_machine.specs.Places.{cell_at}
use Rattle.mutator_events.specs.declared.values.Value.{Value}
use Rattle.mutator_events.specs.declared.values.Value.TheVariants as values

-- a place stands for the cell that is held there
abbrev pub field_at : List Held → Value → Field
field_at held values.Null = field.Null
field_at held (values.Num n) = field.Num n
field_at held (values.Held place) = field.Cell (cell_at held place)

-- what a read gives for the field that it found, where so many places were held: the cell that was
-- found is held at the next one
abbrev pub value_found : ℕ → Field → Value
value_found many field.Null = values.Null
value_found many (field.Num n) = values.Num n
value_found many (field.Cell c) = values.Held many

-- The cells of a held list, as the seat has them at run time.

-- the same by the cells alone
abbrev pub field_among : List ℕ → Value → Field
field_among cells values.Null = field.Null
field_among cells (values.Num n) = field.Num n
field_among cells (values.Held place) = field.Cell (slice_index_or cells place 0)

-- a number of it fits a word
abbrev pub is_small : Value → Bool
is_small values.Null = true
is_small (values.Num n) = nat_lt n (2 ^ 62)
is_small (values.Held place) = true

-- a read holds the cell that it found
abbrev pub cells_read : List ℕ → Field → List ℕ
cells_read cells field.Null = cells
cells_read cells (field.Num n) = cells
cells_read cells (field.Cell c) = cells ++ c ∷ []

-- the first of them, and then copies of some
abbrev pub cells_kept : List ℕ → ℕ → ℕ → ℕ → List ℕ
cells_kept cells count from copies = take count cells ++ take copies (drop from cells)
