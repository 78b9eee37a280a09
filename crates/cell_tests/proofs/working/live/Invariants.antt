use Rattle.std.proofs.Common.{◌≡◌, ◌≤◌}
use Rattle.cell_tests.specs.Working.{IsIn}
use Rattle.cell_tests.proofs.working.live.Given as goal

abbrev pub invariant-loop-cell : goal.invariant-loop-cell
invariant-loop-cell l = (
    IsIn l.heap 0 l.seat × (l.seat.me.number ≡ l.fn.seat.me.number)
    × (l.cell-end ≡ l.heap.shape.cells))

abbrev pub invariant-loop : goal.invariant-loop
invariant-loop l = (
    IsIn l.heap l.sum l.seat × (l.seat.me.number ≡ l.fn.seat.me.number) × (l.sum ≤ l.counter))
