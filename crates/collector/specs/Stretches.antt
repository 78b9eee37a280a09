-- A call of several events: the stretch of the trail that it adds, and what it leaves as it was.
-- Source: this project's.
use Rattle.std.specs.Prelude.{◌≡◌, List, [], ◌∷◌, ◌++◌}
use Rattle.cell_heap.specs.Telling.{FindsKnown}
use Rattle.core_machine.specs.State.{State}
use Rattle.core_machine.specs.declared.events.Taken.{Taken}
use Rattle.heap_table.specs.Seats.{SeatView}
use Rattle.collector.specs.Bound.{Bound, tells_at}

module _ {P : Type 0} where
  -- the seat was told these events one after the other, and is then the other one; each found what
  -- is there, where the collector knows the state
  abbrev pub Took : SeatView P → List Taken → SeatView P → Type 0
  Took old [] new = new ≡ old
  Took old (t ∷ ts) new = (now : State) × FindsKnown old.me t.event t.found
      × Took (tells_at old t.event t.found now) ts new

  -- It is at the same heap, by the same seat, with as much room for what waits for a look; and no
  -- mutator's seat was split off or joined.
  pub record Kept (old new : Bound P) : Type 0 where
    pub heap : new.heap ≡ old.heap
    pub table : new.seat.table ≡ old.seat.table
    pub shape : new.seat.me.shape ≡ old.seat.me.shape
    pub places : new.seat.me.places ≡ old.seat.me.places
    pub room : new.stack.room ≡ old.stack.room

  -- the collector took events of which this holds
  pub record Stretch (F : List Taken → Type 0) (old new : Bound P) : Type 0 where
    pub added : List Taken
    pub told : Took old.seat added new.seat
    pub trail : new.seat.me.trail ≡ old.seat.me.trail ++ added
    pub kept : Kept old new
    pub fact : F added
