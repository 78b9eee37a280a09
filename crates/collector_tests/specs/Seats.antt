-- What the seats of these heaps know where they change hands.
-- Source: this project's.
use Rattle.std.specs.Prelude.{ℕ, ◌≡◌, ◌≤◌, true}
use Rattle.cell_words.specs.declared.controls.Stage.TheVariants as stage
use Rattle.heap_rule.specs.Asks.{MayComeIn}
use Rattle.heap_rule.specs.declared.keeping.NoRule.{NoRule}
use Rattle.heap_table.specs.Seats.{HeapId, IsSeatOf, SeatView}

-- a collector that has made no cycle
pub record IsIdle (heap : HeapId) (seat : SeatView NoRule) : Type 0 where
  pub seat_is : IsSeatOf heap seat
  pub idle : seat.me.control.stage ≡ stage.Idle
  pub cycles : seat.me.control.cycles ≡ 0

-- a mutator that is out and may come in, with at least so many places
pub record IsOut (heap : HeapId) (room : ℕ) (seat : SeatView NoRule) : Type 0 where
  pub seat_is : IsSeatOf heap seat
  pub may : MayComeIn seat.me
  pub many : room ≤ seat.me.room

-- a mutator that is over
pub record IsOver (heap : HeapId) (seat : SeatView NoRule) : Type 0 where
  pub seat_is : IsSeatOf heap seat
  pub over : seat.me.presence.over ≡ true
