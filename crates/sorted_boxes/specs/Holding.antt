-- What a mutator holds between two calls.
-- Source: this project's.
use Rattle.std.specs.Prelude.{ℕ, ◌≡◌, ◌<◌, ◌≤◌, ◌+◌, true, length}
use Rattle.std.specs.Prelude.{slice_index_or}
use Rattle.cell_words.specs.declared.fields.Field.TheVariants as field
use Rattle.heap_rule.specs.Asks.{known_of}
use Rattle.heap_rule.specs.declared.view.View.{View}
use Rattle.mutator_seat.specs.Bound.{Bound}
use Rattle.mutator_seat.specs.Claims.{Claimed}
use Rattle.sorted_rule.specs.Open.{IsOpen, KnownOfSort, MayShow}
use Rattle.sorted_rule.specs.Sorts.{Boxes, Records, Sort}
use Rattle.sorted_rule.specs.declared.sorting.Sorting.{Sorting}
use Rattle.sorted_boxes.specs.Sorts.{Serves, SortList, sort_in}

-- what is held at a place is of this sort: it is open, as the anchor and a box that others may know
-- are, or it is known as a record
abbrev pub IsAs : View Sorting → ℕ → Sort → Type 0
IsAs v place Boxes = IsOpen v place
IsAs v place Records = KnownOfSort Records (known_of v place)

-- It is in, and holds at each place what the list says: the anchor at the first one, and at each
-- other a box that others may know, or a record.
pub record HoldsAs (sorts : SortList) (v : View Sorting) : Type 0 where
  pub inside : v.presence.inside ≡ true
  pub serves : Serves sorts v
  pub some : 1 ≤ length v.own.held
  pub each : (place : ℕ) → place < length v.own.held → IsAs v place (sort_in sorts place)

-- It is in, and holds at the first n of its places what the list says.
pub record HoldsFirst (n : ℕ) (sorts : SortList) (v : View Sorting) : Type 0 where
  pub inside : v.presence.inside ≡ true
  pub serves : Serves sorts v
  pub fit : n ≤ length v.own.held
  pub each : (place : ℕ) → place < n → IsAs v place (sort_in sorts place)

-- A new box that nobody else knows is held at the last place, after so many that the list tells
-- of. Its first field is null.
pub record HoldsNew (fresh : ℕ) (sorts : SortList) (v : View Sorting) : Type 0 where
  pub first : HoldsFirst fresh sorts v
  pub some : 1 ≤ fresh
  pub last : length v.own.held ≡ fresh + 1
  pub may : MayShow v fresh
  pub null : slice_index_or may.fields 0 field.Null ≡ field.Null

-- A raw cell is held at the last place, claimed just now by a mutator that held what the list says.
pub record HoldsRaw (sorts : SortList) (m : Bound Sorting) (place : ℕ) : Type 0 where
  pub before : Bound Sorting
  pub held : HoldsAs sorts before.seat.me
  pub claimed : Claimed before place m
