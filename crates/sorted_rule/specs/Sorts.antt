-- What a field of a box may name, told by the number of the field alone.
--
-- Of each box so many fields, from the first on, name boxes, and the others name records. All
-- fields of the anchor name boxes, however many of the other boxes do. So the anchor is sorted
-- otherwise than what a read finds, and no field names it: each mutator that is in holds it, and
-- knows it by its place.
-- Source: this project's.
use Rattle.std.specs.Prelude.{ℕ, zero, suc, ◌≢◌, nat_lt, if◌then◌else◌}
use Rattle.cell_words.specs.Term.{five, null, num}
use Rattle.heap_rule.specs.Lore.{Entry, Named, Plain}

pub data Sort : Type 0 where
  Boxes : Sort
  Records : Sort

-- the sort of field f of the box at this cell, where so many fields name boxes
abbrev pub sort_of : (boxes cell f : ℕ) → Sort
sort_of boxes zero f = Boxes
sort_of boxes (suc cell) f = if nat_lt f boxes then Boxes else Records

-- What may stand in a field: null, a number, or what its sort names.
abbrev pub IsOfSort : Sort → Entry → Type 0
IsOfSort Boxes (Plain null) = Unit {0}
IsOfSort Boxes (Plain (num n)) = Unit {0}
IsOfSort Boxes (Plain (five a b c d e)) = ⊥
IsOfSort Boxes (Named cell) = cell ≢ 0
IsOfSort Records (Plain t) = Unit {0}
IsOfSort Records (Named cell) = ⊥
