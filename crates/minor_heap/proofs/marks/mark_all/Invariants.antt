use Rattle.std.proofs.Common.{◌≡◌, drop}
use Rattle.minor_heap.specs.Marking.{with_refs}
use Rattle.minor_heap.proofs.marks.mark_all.Given as goal

abbrev pub invariant-loop-r : goal.invariant-loop-r
invariant-loop-r l = with_refs (drop l.r-index l.from) l.marks ≡ with_refs l.from l.fn.marks
