-- What a mutator of these tests knows between two stores.
-- Source: this project's.
use Rattle.std.specs.Prelude.{◌≡◌, ◌≤◌, true, length}
use Rattle.heap_rule.specs.declared.keeping.NoRule.{NoRule}
use Rattle.heap_table.specs.Seats.{HeapId, IsSeatOf}
use Rattle.mutator_seat.specs.Bound.{Bound}

-- it is in, at this heap, holds the anchor alone, and has room for one cell more
pub record HoldsAnchor (heap : HeapId) (m : Bound NoRule) : Type 0 where
  pub heap_is : m.heap ≡ heap
  pub seat_is : IsSeatOf heap m.seat
  pub inside : m.seat.me.presence.inside ≡ true
  pub held : length m.seat.me.own.held ≡ 1
  pub fits : 2 ≤ m.seat.me.room
