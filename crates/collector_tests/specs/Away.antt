-- What a mutator of these tests is while it is in, whatever it holds, and between two such times.
-- Source: this project's.
use Rattle.std.specs.Prelude.{ℕ, ◌≡◌, ◌≤◌, false, true}
use Rattle.heap_rule.specs.declared.keeping.NoRule.{NoRule}
use Rattle.heap_table.specs.Seats.{HeapId, IsSeatOf}
use Rattle.mutator_seat.specs.Bound.{Bound}

-- it is out, at this heap, and has at least so many places
pub record IsAway (heap : HeapId) (room : ℕ) (m : Bound NoRule) : Type 0 where
  pub heap_is : m.heap ≡ heap
  pub seat_is : IsSeatOf heap m.seat
  pub out : m.seat.me.presence.inside ≡ false
  pub fits : room ≤ m.seat.me.room

-- it is in, at this heap
pub record IsIn (heap : HeapId) (m : Bound NoRule) : Type 0 where
  pub heap_is : m.heap ≡ heap
  pub seat_is : IsSeatOf heap m.seat
  pub inside : m.seat.me.presence.inside ≡ true
