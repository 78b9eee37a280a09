-- What a call leaves of a mutator under any rule, and what it adds to the trail. Of a rule only the
-- fixed fields matter here.
-- Source: this project's.
use Rattle.std.specs.Prelude.{ℕ, ◌≡◌, ◌≢◌, ◌<◌, ◌≤◌, ◌++◌, Bool, true, false, List, [], ◌∷◌, length}
use Rattle.std.specs.Prelude.{Option, Some, None, slice_index_or}
use Rattle.cell_words.specs.Term.{Term}
use Rattle.cell_words.specs.declared.fields.Field.{Field}
use Rattle.cell_words.specs.declared.fields.Field.TheVariants as field
use Rattle.core_machine.specs.declared.events.Taken.{Taken}
use Rattle.core_machine.specs.Trail.{own_along}
use Rattle.heap_rule.specs.declared.known.Known.{Known}
use Rattle.heap_rule.specs.declared.known.Known.TheVariants as knows
use Rattle.heap_rule.specs.declared.view.View.{View}
use Rattle.heap_rule.specs.Asks.{known_of, target}
use Rattle.mutator_events.specs.declared.values.Value.{Value}
use Rattle.mutator_events.specs.Values.{field_at}
use Rattle.mutator_seat.specs.Bound.{Bound, held_cells}
use Rattle.trails.specs.Asks.{Ask, InOrder, gave_at}
use Rattle.trails.specs.Marks.{marks_from}

-- The same mutator of the same heap, in or out as it was: its trail grew by events that show these
-- reads in order, and its own part is what they left of it.
pub record Goes {P : Type 0} (asks : List Ask) (old new : Bound P) : Type 0 where
  pub heap : new.heap ≡ old.heap
  pub table : new.seat.table ≡ old.seat.table
  pub shape : new.seat.me.shape ≡ old.seat.me.shape
  pub role : new.seat.me.role ≡ old.seat.me.role
  pub number : new.seat.me.number ≡ old.seat.me.number
  pub room : new.seat.me.room ≡ old.seat.me.room
  pub inside : new.seat.me.presence.inside ≡ old.seat.me.presence.inside
  pub over : new.seat.me.presence.over ≡ old.seat.me.presence.over
  pub added : List Taken
  pub trail : new.seat.me.trail ≡ old.seat.me.trail ++ added
  pub own : new.seat.me.own ≡ own_along old.seat.me.own added
  pub shown : InOrder asks (marks_from old.seat.me.own added)

-- What was known of a cell is still known; of a box the terms of its fixed fields.
abbrev pub StillKnown : (ℕ → Bool) → Known → Known → Type 0
StillKnown fixed knows.Nothing new = Unit {0}
StillKnown fixed (knows.Raw fields) new = new ≡ knows.Raw fields
StillKnown fixed (knows.Fresh fields) new = new ≡ knows.Fresh fields
StillKnown fixed (knows.Record t) new = new ≡ knows.Record t
StillKnown fixed (knows.Boxed told) new =
    (terms : List (Option Term)) × ((new ≡ knows.Boxed terms)
    × ((f : ℕ) (t : Term) → f < 5 → fixed f ≡ true → slice_index_or told f None ≡ Some t
    → slice_index_or terms f None ≡ Some t))

-- it is known as a record, or as a box that others may know
abbrev pub settled : Known → Bool
settled knows.Nothing = false
settled (knows.Raw fields) = false
settled (knows.Fresh fields) = false
settled (knows.Record t) = true
settled (knows.Boxed told) = true

-- it is known as fresh: a raw cell, or a box that nothing names yet
abbrev pub known_fresh : Known → Bool
known_fresh knows.Nothing = false
known_fresh (knows.Raw fields) = true
known_fresh (knows.Fresh fields) = true
known_fresh (knows.Record t) = false
known_fresh (knows.Boxed told) = false

-- what was known at each place below an end is still known there
abbrev pub StaysKnown : {P : Type 0} → (ℕ → Bool) → ℕ → Bound P → Bound P → Type 0
StaysKnown fixed end old new = (place : ℕ) → place < end
    → StillKnown fixed (known_of old.seat.me place) (known_of new.seat.me place)

-- The held list is as it was, with these cells after it, and what was known of the old places is
-- still known.
pub record Holds {P : Type 0} (fixed : ℕ → Bool) (cells : List ℕ) (old new : Bound P) : Type 0
  where
    pub held : held_cells new ≡ held_cells old ++ cells
    pub known : StaysKnown fixed (length old.seat.me.own.held) old new

-- the mutator is in, and the first of its places is the anchor
pub record IsIn {P : Type 0} (m : Bound P) : Type 0 where
  pub inside : m.seat.me.presence.inside ≡ true
  pub some : 1 ≤ length m.seat.me.own.held
  pub anchor : target m.seat.me 0 ≡ 0

-- what is known of one cell at two places is of one kind
abbrev pub one_kind : Known → Known → Bool
one_kind knows.Nothing k = true
one_kind (knows.Raw fields) knows.Nothing = true
one_kind (knows.Raw fields) (knows.Raw others) = true
one_kind (knows.Raw fields) _ = false
one_kind (knows.Fresh fields) knows.Nothing = true
one_kind (knows.Fresh fields) (knows.Fresh others) = true
one_kind (knows.Fresh fields) _ = false
one_kind (knows.Record t) knows.Nothing = true
one_kind (knows.Record t) (knows.Record other) = true
one_kind (knows.Record t) _ = false
one_kind (knows.Boxed told) knows.Nothing = true
one_kind (knows.Boxed told) (knows.Boxed others) = true
one_kind (knows.Boxed told) _ = false

-- As a read shows: as much is known as there are places, what is known is coherent, and the anchor
-- is not fresh.
pub record IsCoherent {P : Type 0} (v : View P) : Type 0 where
  pub many : length v.known ≡ length v.own.held
  pub kinds : (one other : ℕ) → one < length v.own.held → other < length v.own.held
      → target v one ≡ target v other → one_kind (known_of v one) (known_of v other) ≡ true
  pub anchor : (place : ℕ) → place < length v.own.held → target v place ≡ 0
      → known_fresh (known_of v place) ≡ false

-- the cell that a read of this field holds: the one that the field names, if it names one
abbrev pub cells_found : Field → List ℕ
cells_found field.Null = []
cells_found (field.Num n) = []
cells_found (field.Cell c) = c ∷ []

-- One read of this field of the cell at a place, which gave this.
pub record WasRead {P : Type 0} (fixed : ℕ → Bool) (old new : Bound P) (place f : ℕ)
    (found : Field) : Type 0 where
  pub goes : Goes (gave_at (target old.seat.me place) f found ∷ []) old new
  pub holds : Holds fixed (cells_found found) old new
  pub claims : new.seat.me.own.claims ≡ old.seat.me.own.claims
  pub coherent : IsCoherent old.seat.me
  pub many : length new.seat.me.known ≡ length new.seat.me.own.held

-- What was known of the places is still known where a field of one cell is written: a cell that is
-- fresh is neither that one nor the one that the value names.
abbrev pub KnownBehind : {P : Type 0} → (ℕ → Bool) → Bound P → Bound P → ℕ → Value → Type 0
KnownBehind fixed old new place value =
    (other : ℕ) → other < length old.seat.me.own.held
    → (known_fresh (known_of old.seat.me other) ≡ true
    → target old.seat.me other ≢ target old.seat.me place)
    → (known_fresh (known_of old.seat.me other) ≡ true → (c : ℕ)
    → field_at old.seat.me.own.held value ≡ field.Cell c → target old.seat.me other ≢ c)
    → StillKnown fixed (known_of old.seat.me other) (known_of new.seat.me other)

-- A store over whatever the field held, or a read and an exchange of what it found.
pub record Overwrote {P : Type 0} (fixed : ℕ → Bool) (old new : Bound P) (place : ℕ)
    (value : Value) : Type 0 where
  pub goes : Goes [] old new
  pub known : KnownBehind fixed old new place value

-- it is known as a box that others may know
abbrev pub IsBoxed : Known → Type 0
IsBoxed k = (told : List (Option Term)) × (k ≡ knows.Boxed told)

-- A fresh box at a place is known so, where the value names it.
abbrev pub KnownNamed : {P : Type 0} → Bound P → Bound P → Value → Type 0
KnownNamed old new value =
    (other : ℕ) (fields : List Field) → other < length old.seat.me.own.held
    → field_at old.seat.me.own.held value ≡ field.Cell (target old.seat.me other)
    → known_of old.seat.me other ≡ knows.Fresh fields → IsBoxed (known_of new.seat.me other)
