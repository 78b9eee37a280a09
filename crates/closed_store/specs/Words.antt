-- Fields that are followed: what stands in the cell that one names.
-- Source: this project's.
use Rattle.std.specs.Prelude.{ℕ}
use Rattle.cell_words.specs.declared.fields.Field.{Field}
use Rattle.cell_words.specs.declared.fields.Field.TheVariants as field
use Rattle.core_machine.specs.State.{State, field_of}

-- field i of the cell that the field names; null where it names none
abbrev pub field_behind : State → Field → ℕ → Field
field_behind s field.Null i = field.Null
field_behind s (field.Num n) i = field.Null
field_behind s (field.Cell c) i = field_of s c i
