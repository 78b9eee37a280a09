use Rattle.heap_c.proofs.Claims.{Seeks}
use Rattle.heap_c.proofs.claiming.try_cells.Given as goal

abbrev pub invariant-loop-cell : goal.invariant-loop-cell
invariant-loop-cell l = Seeks l.fn.heap l.fn.seat l.seat
