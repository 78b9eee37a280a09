-- That a number was read from the anchor down, by the trail of the mutator that read it.
-- Source: this project's.
use Rattle.std.specs.Prelude.{ℕ, ◌≡◌, List, [], ◌∷◌, ◌++◌}
use mathlib.Core.Option.{some}
use lib.ListN.{get_elem?}
use Rattle.cell_words.specs.declared.fields.Field.TheVariants as field
use Rattle.core_machine.specs.Own.{no_own}
use Rattle.core_machine.specs.Trail.{own_along}
use Rattle.core_machine.specs.declared.events.Event.TheVariants as event
use Rattle.core_machine.specs.declared.events.Taken.{Taken}
use Rattle.heap_rule.specs.Asks.{target}
use Rattle.heap_rule.specs.declared.view.Place.TheVariants as places
use Rattle.heap_rule.specs.declared.view.Share.{Share}
use Rattle.heap_rule.specs.declared.view.View.{View}
use Rattle.heap_table.specs.Seats.{SeatView}
use Rattle.held_places.specs.Calls.{Goes}
use Rattle.mutator_seat.specs.Bound.{Bound}
use Rattle.trails.specs.Asks.{Ask, InOrder, gave_at}
use Rattle.trails.specs.Marks.{marks_from}
use Rattle.example_root.specs.declared.kept.Kept.{Kept}

-- reads of the anchor's field, then of the box's, then of the record's, which gave the number
abbrev pub reads_down : ℕ → ℕ → List Ask
reads_down cell number =
    gave_at 0 0 (field.Cell 1) ∷ gave_at 1 0 (field.Cell cell)
    ∷ gave_at cell 0 (field.Num number) ∷ []

-- a stretch of calls read it so
pub record ReadsDown (number : ℕ) (old new : Bound Kept) : Type 0 where
  pub cell : ℕ
  pub reads : Goes (reads_down cell number) old new

-- what the box names was read, and is held after it
pub record ReadsBox (old new : Bound Kept) : Type 0 where
  pub cell : ℕ
  pub reads : Goes (gave_at 1 0 (field.Cell cell) ∷ []) old new
  pub held : target new.seat.me 2 ≡ cell

-- the seat that a mutator left has its trail, and the events by which it was left
abbrev pub EndsTrail : Bound Kept → SeatView Kept → Type 0
EndsTrail m seat = (more : List Taken) × (seat.me.trail ≡ m.seat.me.trail ++ more)

-- The mutator went out and came in again.
pub record WentOut (old new : Bound Kept) : Type 0 where
  pub out : Taken
  pub out_is : out.event ≡ event.End old.seat.me.number
  pub back : Taken
  pub trail : new.seat.me.trail ≡ old.seat.me.trail ++ out ∷ back ∷ []

-- The trail shows that its mutator went out, and after that such reads.
pub record ReadBack (number : ℕ) (trail : List Taken) : Type 0 where
  pub who : ℕ
  pub before : List Taken
  pub out : Taken
  pub out_is : out.event ≡ event.End who
  pub later : List Taken
  pub trail_is : trail ≡ before ++ out ∷ later
  pub cell : ℕ
  pub shown : InOrder (reads_down cell number)
      (marks_from (own_along no_own (before ++ out ∷ [])) later)

-- so the joined seat of the first mutator has it
pub record WasReadBack (number : ℕ) (view : View Kept) : Type 0 where
  pub share : Share Kept
  pub share_at : get_elem? view.places 0 ≡ some (places.Joined share)
  pub read : ReadBack number share.trail
