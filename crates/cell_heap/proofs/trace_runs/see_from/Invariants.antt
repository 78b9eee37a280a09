use Rattle.cell_heap.specs.Collecting.{IsCollectors}
use Rattle.cell_heap.proofs.InARow.{SeenTo}
use Rattle.cell_heap.proofs.trace_runs.see_from.Given as goal

abbrev pub invariant-loop-cell : goal.invariant-loop-cell
invariant-loop-cell g l = SeenTo l.cell l.fn.seat l.seat × IsCollectors l.seat.me
