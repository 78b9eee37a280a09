use Rattle.cell_heap.specs.Collecting.{IsCollectors}
use Rattle.cell_heap.proofs.InARow.{ClearedTo}
use Rattle.cell_heap.proofs.trace_runs.clear_from.Given as goal

abbrev pub invariant-loop-cell : goal.invariant-loop-cell
invariant-loop-cell g l = ClearedTo l.cell l.fn.seat l.seat × IsCollectors l.seat.me
