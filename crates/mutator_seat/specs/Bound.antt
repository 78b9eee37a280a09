-- A mutator as contracts see it: the heap, and the seat on it.
-- Source: this project's.
use Rattle.std.specs.Prelude.{ℕ, ◌≡◌, false, List, None}
use Rattle.core_machine.specs.declared.events.Event.{Event}
use Rattle.core_machine.specs.declared.events.Found.{Found}
use Rattle.heap_rule.specs.Lore.{cells_in}
use Rattle.heap_table.specs.Seats.{HeapId, IsSeatOf, SeatView}
use Rattle.mutator_events.specs.Events.{tells, tells_with}

pub record Bound (P : Type 0) : Type 0 where
  pub heap : HeapId
  pub seat : SeatView P

module _ {P : Type 0} where
  abbrev pub bound : HeapId → SeatView P → Bound P
  bound heap seat = record { heap = heap; seat = seat }

  pub record IsBound (heap : HeapId) (seat : SeatView P) : Type 0 where
    pub seat_is : IsSeatOf heap seat
    -- no write is begun: a call that begins one ends it
    pub settled : seat.me.own.pending ≡ None
    -- only `finish` makes it over, and takes the mutator away
    pub not_over : seat.me.presence.over ≡ false

  -- the cells that it holds, place by place
  abbrev pub held_cells : Bound P → List ℕ
  held_cells m = cells_in m.seat.me.own.held

  -- the mutator after an event that left its pass
  abbrev pub takes : Bound P → Event → Found → Bound P
  takes m e found = record m { seat = tells m.seat e found }

  -- and after one that picked a pass
  abbrev pub takes_with : Bound P → Event → Found → P → Bound P
  takes_with m e found pass = record m { seat = tells_with m.seat e found pass }
