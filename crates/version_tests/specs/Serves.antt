-- What a collector of these tests knows before it serves.
-- Source: this project's.
use Rattle.std.specs.Prelude.{ℕ, ◌≡◌, ◌<◌, None, length}
use Rattle.cell_words.specs.declared.controls.Stage.TheVariants as stage
use Rattle.heap_table.specs.Seats.{HeapId, IsSeatOf, SeatView}
use Rattle.version_rule.specs.Pass.{Pass}

-- it has made no cycle
pub record IsIdle (heap : HeapId) (seat : SeatView Pass) : Type 0 where
  pub seat_is : IsSeatOf heap seat
  pub some : 0 < heap.shape.cells
  pub idle : seat.me.control.stage ≡ stage.Idle
  pub cycles : seat.me.control.cycles ≡ 0
  pub answers : length seat.me.part.answered ≡ heap.shape.mutators
  pub scan : seat.me.part.scan ≡ None
