-- A value that names no fresh box: nobody's rule sees anything new where it is put into a raw cell.
-- Source: this project's.
use Rattle.std.specs.Prelude.{ℕ, ◌≡◌, ◌<◌, length}
use Rattle.cell_words.specs.declared.fields.Field.{Field}
use Rattle.cell_words.specs.declared.fields.Field.TheVariants as field
use Rattle.heap_rule.specs.Asks.{known_of, target}
use Rattle.heap_rule.specs.declared.known.Known.{Known}
use Rattle.heap_rule.specs.declared.known.Known.TheVariants as knows
use Rattle.heap_rule.specs.declared.view.View.{View}

-- it is known as a record, or as a box that others may know
abbrev pub IsSettled : Known → Type 0
IsSettled (knows.Record t) = Unit {0}
IsSettled (knows.Boxed told) = Unit {0}
IsSettled _ = ⊥

-- the value is null or a number, or some place has it as such a cell
abbrev pub NamesSettled : {P : Type 0} → View P → Field → Type 0
NamesSettled v field.Null = Unit {0}
NamesSettled v (field.Num n) = Unit {0}
NamesSettled v (field.Cell c) =
    (place : ℕ) × ((place < length v.own.held) × ((target v place ≡ c)
    × IsSettled (known_of v place)))
