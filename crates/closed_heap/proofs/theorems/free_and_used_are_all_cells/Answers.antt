use Rattle.closed_heap.proofs.Counting.{free_and_used}
use Rattle.closed_heap.proofs.theorems.free_and_used_are_all_cells.Goals as goal

pub returns : goal.returns
returns c = free_and_used
