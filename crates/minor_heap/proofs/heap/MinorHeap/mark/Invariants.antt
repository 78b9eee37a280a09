use Rattle.std.proofs.Common.{◌≤◌, length}
use Rattle.minor_heap.specs.Reaches.{IsMarked}
use Rattle.minor_heap.proofs.Passing.{MarksFrom}
use Rattle.minor_heap.proofs.heap.MinorHeap.mark.Given as goal

abbrev pub invariant-loop-number : goal.invariant-loop-number
invariant-loop-number l =
    MarksFrom l.self.records (IsMarked l.fn.marks) l.marks l.number
    × (l.number ≤ length l.self.records)

abbrev pub decreases-loop-number : goal.decreases-loop-number
decreases-loop-number l = l.number
