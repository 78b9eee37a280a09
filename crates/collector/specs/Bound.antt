-- A collector as contracts see it: the heap, the seat on it, and the mark stack.
-- Source: this project's.
use Rattle.std.specs.Prelude.{ℕ, ◌≡◌, Bool, true, None}
use Rattle.std.specs.List.{list_all}
use Rattle.cell_heap.specs.Telling.{FindsKnown, collector_tells}
use Rattle.cell_words.specs.declared.colours.Colour.{Colour}
use Rattle.core_machine.specs.declared.events.Event.{Event}
use Rattle.core_machine.specs.declared.events.Found.{Found}
use Rattle.core_machine.specs.declared.events.Found.TheVariants as finds
use Rattle.core_machine.specs.declared.progress.Scanning.{Scanning}
use Rattle.core_machine.specs.Collector.{Collector}
use Rattle.core_machine.specs.Next.{can}
use Rattle.core_machine.specs.State.{State}
use Rattle.cell_words.specs.declared.controls.Control.{Control}
use Rattle.heap_rule.specs.Asks.{collector_state}
use Rattle.heap_rule.specs.Rule.{told_collector}
use Rattle.heap_table.specs.Seats.{HeapId, IsSeatOf, SeatView}
use Rattle.collector.specs.Stack.{AllBelow, Stack}

pub record Bound (P : Type 0) : Type 0 where
  pub heap : HeapId
  pub seat : SeatView P
  pub stack : Stack

module _ {P : Type 0} where
  pub record IsBound (heap : HeapId) (seat : SeatView P) (mutators : ℕ) (stack : Stack)
      : Type 0 where
    pub seat_is : IsSeatOf heap seat
    pub mutators_are : heap.shape.mutators ≡ mutators
    -- what waits for a look is a cell of this heap
    pub stacked : AllBelow seat.me.shape.cells stack.cells

  -- What it knows: how many cells and mutators there are, the control, and its own part.

  abbrev pub cells_of : Bound P → ℕ
  cells_of c = c.seat.me.shape.cells

  abbrev pub mutators_of : Bound P → ℕ
  mutators_of c = c.seat.me.shape.mutators

  abbrev pub control_of : Bound P → Control
  control_of c = c.seat.me.control

  abbrev pub part_of : Bound P → Collector
  part_of c = c.seat.me.part

  -- by this the event table allows the event
  abbrev pub may : Bound P → Event → Bool
  may c e = can (collector_state c.seat.me) e

  -- The seat after an event of it; where all mutators are over, the state after it matters.
  abbrev pub tells_at : SeatView P → Event → Found → State → SeatView P
  tells_at seat e found now = record seat { me = told_collector seat.me e found now }

  -- The collector after one at which the state is of no account.
  abbrev pub takes : Bound P → Event → Found → Bound P
  takes c e found = record c { seat = collector_tells c.seat e found }

  -- after one that found a colour, which its call does not give
  abbrev pub TakesColour : Bound P → Event → Bound P → Type 0
  TakesColour old e new = (found : Colour) × (new ≡ takes old e (finds.Colour found))
      × FindsKnown old.seat.me e (finds.Colour found)

-- Who has answered, and the scan, are as before.
pub record KeepsAnswers (old new : Collector) : Type 0 where
  pub answered : new.answered ≡ old.answered
  pub scan : new.scan ≡ old.scan

-- the scan of a cell, where this field is the next one to be read
abbrev pub scan_at : ℕ → ℕ → Scanning
scan_at cell field = record { cell = cell; next = field; child = None }

-- who has answered is as before, and the sweep
pub record KeepsTracing (old new : Collector) : Type 0 where
  pub answered : new.answered ≡ old.answered
  pub sweep : new.sweep ≡ old.sweep

module _ {P : Type 0} where
  abbrev pub HaveAnswered : Bound P → Type 0
  HaveAnswered c = list_all (λ answered. answered) (part_of c).answered ≡ true

-- the scan, and the sweep of the cell at the position, are as before
pub record KeepsWork (old new : Collector) : Type 0 where
  pub scan : new.scan ≡ old.scan
  pub sweep : new.sweep ≡ old.sweep
