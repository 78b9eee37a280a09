use Rattle.std.proofs.Common.{◌≡◌, ◌++◌, drop}
use Rattle.minor_heap.specs.Marking.{marked_of}
use Rattle.minor_heap.proofs.marks.marked.Given as goal

abbrev pub invariant-loop-number : goal.invariant-loop-number
invariant-loop-number l =
    l.found.items ++ marked_of l.number (drop l.number l.marks) ≡ marked_of 0 l.marks
