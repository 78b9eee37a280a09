-- What a read of a record shows whose term is known.
-- Source: this project's.
use Rattle.std.specs.Prelude.{◌≡◌, ◌<◌, ◌^◌, length}
use Rattle.cell_words.specs.declared.fields.Field.{Field}
use Rattle.cell_words.specs.declared.fields.Field.TheVariants as field
use Rattle.cell_words.specs.Term.{IsFive, Term, null, num}
use Rattle.heap_rule.specs.Asks.{known_of}
use Rattle.heap_rule.specs.declared.known.Known.TheVariants as knows
use Rattle.heap_rule.specs.declared.view.View.{View}

-- The field says this term: it is null, or that number, which fits a word, or a cell that is held
-- at the next place as a record with that term.
abbrev pub ShowsPart : {P : Type 0} → Term → View P → View P → Field → Type 0
ShowsPart t v w field.Null = t ≡ null
ShowsPart t v w (field.Num n) = (t ≡ num n) × (n < 2 ^ 62)
ShowsPart t v w (field.Cell c) =
    IsFive t × (known_of w (length v.own.held) ≡ knows.Record t)
