use Rattle.heap_c.proofs.Claims.{Seeks}
use Rattle.heap_c.proofs.claiming.try_blocks.Given as goal

abbrev pub invariant-loop-tried : goal.invariant-loop-tried
invariant-loop-tried l = Seeks l.fn.heap l.fn.seat l.seat
