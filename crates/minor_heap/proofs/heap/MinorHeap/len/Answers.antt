use Rattle.std.proofs.Common.{arith}
use Rattle.minor_heap.proofs.heap.MinorHeap.len.Goals as goal

pub overflow_cast-result : goal.overflow_cast-result
overflow_cast-result c = omega (arith, c.self.invariant.count, c.self.invariant.few, c.len.ensures)
