-- A write of a box: what it needs, and what it tells.
--
-- The caller cannot know the mode, the marks and the trail at the write: so its condition on the
-- pass ranges over every view after the look and the marks. That the places are as before
-- (`SamePlaces`) and which pass was picked is told with the write, so that no client has to derive
-- it.
-- Source: this project's.
use Rattle.std.specs.Prelude.{ℕ, ◌≡◌, ◌<◌, ◌≤◌, ◌^◌, Bool, true, List, [], ◌∷◌, ◌++◌, length}
use Rattle.std.specs.Prelude.{nat_lt}
use Rattle.cell_words.specs.Modes.{barrier_of}
use Rattle.cell_words.specs.declared.controls.Control.{Control}
use Rattle.cell_words.specs.declared.fields.Field.{Field}
use Rattle.cell_words.specs.declared.presences.Status.{Status}
use Rattle.cell_words.specs.declared.write_barrier.Barrier.{Barrier}
use Rattle.cell_words.specs.declared.write_barrier.Barrier.TheVariants as barrier
use Rattle.core_machine.specs.declared.events.Event.{Event}
use Rattle.core_machine.specs.declared.events.Event.TheVariants as event
use Rattle.core_machine.specs.declared.events.Found.{Found}
use Rattle.core_machine.specs.declared.events.Found.TheVariants as finds
use Rattle.core_machine.specs.declared.events.Taken.{Taken}
use Rattle.core_machine.specs.declared.places.Held.{Held}
use Rattle.heap_rule.specs.declared.known.Learned.{Learned}
use Rattle.heap_rule.specs.declared.view.View.{View}
use Rattle.heap_rule.specs.Asks.{IsBox, IsSealedValue, known_of, target}
use Rattle.heap_rule.specs.Boxes.{Map}
use Rattle.heap_rule.specs.Lore.{cells_in, learned}
use Rattle.heap_rule.specs.Steps.{Picks}
use Rattle.mutator_events.specs.declared.values.Value.{Value}
use Rattle.mutator_events.specs.declared.values.Value.TheVariants as values
use Rattle.mutator_events.specs.Events.{AtEvent}
use Rattle.mutator_events.specs.Values.{field_at}
use Rattle.mutator_seat.specs.Bound.{Bound, held_cells}
use Rattle.mutator_seat.specs.Stretches.{Calm, Kept, MarksOf, SamePlaces}
use Rattle.trails.specs.Claims.{look_of}

-- null, a number below 2^62, or a place in range
abbrev pub IsNamed : List Held → Value → Type 0
IsNamed held values.Null = Unit {0}
IsNamed held (values.Num n) = nat_lt n (2 ^ 62) ≡ true
IsNamed held (values.Held place) = place < length held

-- the place of a value that is a held cell
abbrev pub places_in : Value → List ℕ
places_in values.Null = []
places_in (values.Num n) = []
places_in (values.Held place) = place ∷ []

-- the places that the barrier asks to have marked before new is written over old
abbrev pub wanted_by : Barrier → Value → Value → List ℕ
wanted_by barrier.Nothing old new = []
wanted_by barrier.Old old new = places_in old
wanted_by barrier.Both old new = places_in old ++ places_in new

-- one look, and the marks that the barrier asks for by this status and what the look found
pub record LookAndMarks (number : ℕ) (own : Status) (old new : Value) (events : List Taken)
    : Type 0 where
  pub control : Control
  pub marks : List Taken
  pub split : events ≡ look_of number control ∷ marks
  pub marks_are : MarksOf number (wanted_by (barrier_of own control) old new) marks

module _ {P : Type 0} where
  pub record MayUpdate (fixed : ℕ → Bool) (v : View P) (place f : ℕ) (old new : Value)
      : Type 0 where
    pub inside : v.presence.inside ≡ true
    pub there : place < length v.own.held
    pub payload : f ≤ 4
    pub box : IsBox (target v place) (known_of v place)
    pub old_named : IsNamed v.own.held old
    pub new_named : IsNamed v.own.held new
    pub sealed : IsSealedValue (cells_in v.own.held) v.known (field_at v.own.held new)
    pub spares : fixed f ≡ true → target v place ≡ 0

  -- the Write that exchanges one value for the other
  abbrev pub write_of : Bound P → ℕ → ℕ → Value → Value → Event
  write_of m place f old new =
      event.Write m.seat.me.number place f (field_at m.seat.me.own.held old)
      (field_at m.seat.me.own.held new)

  -- the pass that is picked stands at the write, whatever the look finds and whatever is marked
  abbrev pub PicksUpdate : (Map → List P → Type 0) → (ℕ → Bool) → (Learned → Found → P → P)
      → Bound P → ℕ → ℕ → Value → Value → Type 0
  PicksUpdate holds fixed next m place f old new =
      (at : Bound P) → Kept m at → at.seat.me.presence ≡ m.seat.me.presence
      → Picks holds fixed next at.seat.me (write_of at place f old new)

  -- one look, the marks of the barrier, and the write, which found this
  pub record Updated (holds : Map → List P → Type 0) (fixed : ℕ → Bool)
      (next : Learned → Found → P → P) (m : Bound P) (place f : ℕ) (old new : Value)
      (found : Field) (after : Bound P) : Type 0 where
    -- as it was at the write
    pub at : Bound P
    pub calm : Calm (LookAndMarks m.seat.me.number m.seat.me.presence.status old new) m at
    pub event : AtEvent holds fixed at.seat.me (write_of at place f old new) next
        (finds.Field found) after.seat.me
    pub heap : after.heap ≡ m.heap
    pub table : after.seat.table ≡ m.seat.table
    pub held : held_cells after ≡ held_cells m
    pub places : SamePlaces m after
    -- what is picked of the pass before the call, by what the write told and found
    pub pass : after.seat.me.pass
        ≡ next (learned event.core event.lore (write_of at place f old new)) (finds.Field found)
        m.seat.me.pass
