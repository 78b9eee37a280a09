-- What a call of a mutator's seat tells: the event that it was, what this found, and the state and
-- the client's rule as they stood at that step.
-- Source: this project's.
use Rattle.std.specs.Prelude.{ℕ, ◌≡◌, Bool, true, List}
use mathlib.Core.Option.{some}
use lib.ListN.{get_elem?}
use Rattle.core_machine.specs.declared.events.Event.{Event}
use Rattle.core_machine.specs.declared.events.Event.TheVariants as event
use Rattle.core_machine.specs.declared.events.Found.{Found}
use Rattle.core_machine.specs.Next.{can, found_by}
use Rattle.core_machine.specs.State.{State}
use Rattle.heap_rule.specs.declared.known.Learned.{Learned}
use Rattle.heap_rule.specs.declared.view.View.{View}
use Rattle.heap_rule.specs.Boxes.{Map, boxes_of}
use Rattle.heap_rule.specs.Lore.{Lore, learned, nothing_learned}
use Rattle.heap_rule.specs.Rule.{told}
use Rattle.heap_rule.specs.Steps.{Mine}
use Rattle.heap_table.specs.Seats.{SeatView}
use Rattle.mutator_events.specs.declared.values.Value.{Value}
use Rattle.mutator_events.specs.Values.{field_at}

module _ {P : Type 0} where
  -- The state, the lore and the passes at the step of an event: the client's rule stood on them,
  -- the event found this there, and the view after it is the view before with this told.
  pub record AtEvent (holds : Map → List P → Type 0) (fixed : ℕ → Bool) (v : View P) (e : Event)
      (next : Learned → Found → P → P) (found : Found) (w : View P) : Type 0 where
    pub core : State
    pub lore : Lore
    pub passes : List P
    pub mine : Mine fixed v core lore
    pub happens : can core e ≡ true
    pub kept : holds (boxes_of core lore) passes
    pub pass : get_elem? passes v.number ≡ some v.pass
    pub found_is : found_by core e ≡ found
    pub new : w ≡ told v e found (learned core lore e) (next (learned core lore e) found v.pass)

  -- the seat after an event that told nothing besides what it found, and left the pass
  abbrev pub tells : SeatView P → Event → Found → SeatView P
  tells seat e found = record seat { me = told seat.me e found nothing_learned seat.me.pass }

  -- and after one that picked a pass
  abbrev pub tells_with : SeatView P → Event → Found → P → SeatView P
  tells_with seat e found pass = record seat { me = told seat.me e found nothing_learned pass }

  -- the events whose operands are values, as they stand for fields in this view
  abbrev pub fill_of : View P → ℕ → ℕ → Value → Event
  fill_of v place f value = event.Fill v.number place f (field_at v.own.held value)

  abbrev pub store_of : View P → Value → Event
  store_of v new = event.Store v.number (field_at v.own.held new)

  abbrev pub write_of : View P → ℕ → ℕ → Value → Value → Event
  write_of v place f old new =
      event.Write v.number place f (field_at v.own.held old) (field_at v.own.held new)
