-- What the calls tell: the events of each, and what these found.
-- Source: this project's.
use Rattle.std.specs.Prelude.{ℕ, ◌≡◌, ◌<◌, ◌⊎◌, ◌++◌, [], false, List, length, take}
use Rattle.std.specs.Prelude.{drop, slice_set}
use Rattle.cell_words.specs.Term.{Term}
use Rattle.cell_words.specs.declared.fields.Field.{Field}
use Rattle.core_machine.specs.Words.{same_field}
use Rattle.core_machine.specs.declared.events.Event.TheVariants as event
use Rattle.core_machine.specs.declared.events.Found.TheVariants as finds
use Rattle.heap_rule.specs.Lore.{known_at}
use Rattle.heap_rule.specs.NoRule.{no_field_is_fixed}
use Rattle.heap_rule.specs.Steps.{same_pass}
use Rattle.heap_rule.specs.declared.known.Known.{Known}
use Rattle.heap_rule.specs.declared.known.Known.TheVariants as knows
use Rattle.cell_making.specs.Makes.{MakesBox, value_at}
use Rattle.held_places.specs.Calls.{Goes, WasRead}
use Rattle.mutator_events.specs.declared.values.Value.{Value}
use Rattle.mutator_events.specs.declared.values.Value.TheVariants as values
use Rattle.mutator_events.specs.Events.{AtEvent}
use Rattle.mutator_events.specs.Values.{field_at, value_found}
use Rattle.mutator_seat.specs.Bound.{Bound, held_cells}
use Rattle.mutator_seat.specs.Claims.{Claimed}
use Rattle.mutator_seat.specs.Stores.{Exchanged, Overwritten}
use Rattle.mutator_seat.specs.Writes.{Updated}
use Rattle.sorted_rule.specs.Sorted.{HoldsSorted}
use Rattle.sorted_rule.specs.declared.sorting.Sorting.{Sorting}
use Rattle.sorted_boxes.specs.Holding.{HoldsAs}
use Rattle.sorted_boxes.specs.Sorts.{IsOfTheSort, SortList, sort_found}

-- One read of this field of the cell at a place gave this value, which stood there at its step. A
-- cell that it found is held at the next place.
pub record Gave (old : Bound Sorting) (place f : ℕ) (value : Value) (new : Bound Sorting)
    : Type 0 where
  pub found : Field
  pub value_is : value ≡ value_found (length old.seat.me.own.held) found
  pub at : AtEvent HoldsSorted no_field_is_fixed old.seat.me
      (event.Read old.seat.me.number place f) same_pass (finds.Field found) new.seat.me
  pub was_read : WasRead no_field_is_fixed old new place f found
  pub pass : new.seat.me.pass ≡ old.seat.me.pass

-- five reads, of each field in its turn
pub record GaveAll (old : Bound Sorting) (place : ℕ) (given : List Value) (new : Bound Sorting)
    : Type 0 where
  pub one : Bound Sorting
  pub two : Bound Sorting
  pub three : Bound Sorting
  pub four : Bound Sorting
  pub first : Gave old place 0 (value_at given 0) one
  pub second : Gave one place 1 (value_at given 1) two
  pub third : Gave two place 2 (value_at given 2) three
  pub fourth : Gave three place 3 (value_at given 3) four
  pub fifth : Gave four place 4 (value_at given 4) new

-- each of five values that were read of a cell is of the sort that its field names
abbrev pub AreOfTheirSort : SortList → ℕ → List Value → SortList → Type 0
AreOfTheirSort sorts place given later =
    (f : ℕ) → f < 5 → IsOfTheSort later (sort_found sorts place f) (value_at given f)

module _ (place f : ℕ) (new : Value) where
  -- a store of the value, whatever was there; or a read, and an exchange of what it found for the
  -- value
  abbrev pub Stored : Bound Sorting → Bound Sorting → Type 0
  Stored a b = Overwritten HoldsSorted no_field_is_fixed same_pass a place f new b
      ⊎ ((seen : Field) × Exchanged HoldsSorted no_field_is_fixed same_pass same_pass a place f new
      seen seen b)

  -- a read, and an exchange that found something else, and so changed nothing
  abbrev pub Refused : Bound Sorting → Bound Sorting → Type 0
  Refused a b = (seen found : Field) × ((same_field found seen ≡ false)
      × Exchanged HoldsSorted no_field_is_fixed same_pass same_pass a place f new seen found b)

  -- tries one after the other that were all refused
  pub data AllRefused : Bound Sorting → Bound Sorting → Type 0 where
    no_try : {a : Bound Sorting} → AllRefused a a
    one_more : {a b c : Bound Sorting} → AllRefused a b → Refused b c → AllRefused a c

  -- the value was stored, after tries that were refused
  pub record Wrote (old after : Bound Sorting) : Type 0 where
    pub from : Bound Sorting
    pub refused : AllRefused old from
    pub stored : Stored from after

-- what was known as a record at each place below an end still is, with the same term
abbrev pub KeepsRecords : ℕ → List Known → List Known → Type 0
KeepsRecords end known later =
    (place : ℕ) (t : Term) → place < end → known_at known place ≡ knows.Record t
    → known_at later place ≡ knows.Record t

-- A call leaves these cells held, and the same pass.
pub record Leaves (cells : List ℕ) (old new : Bound Sorting) : Type 0 where
  pub goes : Goes [] old new
  pub held : held_cells new ≡ cells
  pub pass : new.seat.me.pass ≡ old.seat.me.pass

-- all of them
abbrev pub KeepsPlaces : Bound Sorting → Bound Sorting → Type 0
KeepsPlaces old new = Leaves (held_cells old) old new

-- the first n, and then so many from a place on
abbrev pub Narrows : (n place count : ℕ) → Bound Sorting → Bound Sorting → Type 0
Narrows n place count old new =
    Leaves (take n (held_cells old) ++ take count (drop place (held_cells old))) old new

-- the first n
abbrev pub Drops : ℕ → Bound Sorting → Bound Sorting → Type 0
Drops n old new = Leaves (take n (held_cells old)) old new

-- The raw cell at a place, which was claimed after all others, became a box with these fields that
-- nobody else knows.
pub record Sealed (place : ℕ) (given : List Value) (old new : Bound Sorting) : Type 0 where
  pub before : Bound Sorting
  pub sorts : SortList
  pub all : HoldsAs sorts before.seat.me
  pub claimed : Claimed before place old
  pub makes : MakesBox before place given new
  pub goes : Goes [] old new
  pub held : held_cells new ≡ held_cells old
  pub room : new.seat.me.room ≡ old.seat.me.room
  pub pass : new.seat.me.pass ≡ old.seat.me.pass

-- One exchange in the first field of the cell at a place, which found what was expected.
abbrev pub SetsFirst : (place : ℕ) → (old new : Value) → Bound Sorting → Bound Sorting → Type 0
SetsFirst place was now old new =
    Updated HoldsSorted no_field_is_fixed same_pass old place 0 was now
    (field_at old.seat.me.own.held was) new

-- A new box of a raw cell. It is sealed with all its values but the first. Then it names itself in
-- its first field, so that others may know it, and gets the first value in the place of its name.
pub record Made (place : ℕ) (given : List Value) (old new : Bound Sorting) : Type 0 where
  pub between : Bound Sorting
  pub named : Bound Sorting
  pub is_sealed : Sealed place (slice_set given 0 values.Null) old between
  pub names : SetsFirst place values.Null (values.Held place) between named
  pub first : SetsFirst place (values.Held place) (value_at given 0) named new
  pub keeps : KeepsPlaces between new
