-- What a mutator may do with its places under the rule, as far as its knowledge goes: which of them
-- it may read and write, and what it may write where.
-- Source: this project's.
use Rattle.std.specs.Prelude.{ℕ, zero, suc, ◌≡◌, ◌<◌, List, length, slice_index_or}
use Rattle.cell_words.specs.declared.fields.Field.{Field}
use Rattle.cell_words.specs.declared.fields.Field.TheVariants as field
use Rattle.heap_rule.specs.Asks.{known_of, target}
use Rattle.heap_rule.specs.declared.known.Known.{Known}
use Rattle.heap_rule.specs.declared.known.Known.TheVariants as knows
use Rattle.heap_rule.specs.declared.view.View.{View}
use Rattle.sorted_rule.specs.Sorts.{Boxes, Records, Sort, sort_of}
use Rattle.sorted_rule.specs.declared.sorting.Sorting.{Sorting}

-- what is known of a cell says that a field of this sort may name it: a box that others may know,
-- or a record
abbrev pub KnownOfSort : Sort → Known → Type 0
KnownOfSort Boxes (knows.Boxed told) = Unit {0}
KnownOfSort Boxes knows.Nothing = ⊥
KnownOfSort Boxes (knows.Raw fields) = ⊥
KnownOfSort Boxes (knows.Fresh fields) = ⊥
KnownOfSort Boxes (knows.Record t) = ⊥
KnownOfSort Records (knows.Record t) = Unit {0}
KnownOfSort Records knows.Nothing = ⊥
KnownOfSort Records (knows.Raw fields) = ⊥
KnownOfSort Records (knows.Fresh fields) = ⊥
KnownOfSort Records (knows.Boxed told) = ⊥

-- A place is open if it is the first one and has the anchor, or has a box that others may know.
abbrev pub IsOpen : View Sorting → ℕ → Type 0
IsOpen v zero = target v 0 ≡ 0
IsOpen v (suc place) = KnownOfSort Boxes (known_of v (suc place))

-- the sort of field f of the box at an open place
abbrev pub sort_at : View Sorting → ℕ → ℕ → Sort
sort_at v place f = sort_of v.pass.boxes place f

-- The value may stand in a field of this sort: it is null, a number, or a cell at some place that
-- is known to be of the sort.
abbrev pub MayStand : View Sorting → Sort → Field → Type 0
MayStand v sort field.Null = Unit {0}
MayStand v sort (field.Num n) = Unit {0}
MayStand v sort (field.Cell c) =
    (place : ℕ) × ((place < length v.own.held) × ((target v place ≡ c)
    × KnownOfSort sort (known_of v place)))

-- A fresh box at a place whose fields are what any box but the anchor may have, so that others may
-- come to know it.
pub record MayShow (v : View Sorting) (fresh : ℕ) : Type 0 where
  pub there : fresh < length v.own.held
  pub fields : List Field
  pub known : known_of v fresh ≡ knows.Fresh fields
  pub fits : (f : ℕ) → f < 5
      → MayStand v (sort_of v.pass.boxes 1 f) (slice_index_or fields f field.Null)
