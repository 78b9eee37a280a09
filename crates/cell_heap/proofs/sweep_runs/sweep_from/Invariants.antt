use Rattle.cell_heap.specs.Collecting.{IsCollectors}
use Rattle.cell_heap.proofs.InARow.{SweptTo}
use Rattle.cell_heap.proofs.sweep_runs.sweep_from.Given as goal

abbrev pub invariant-loop-position : goal.invariant-loop-position
invariant-loop-position g l = SweptTo l.position l.fn.seat l.seat × IsCollectors l.seat.me
