use Rattle.std.proofs.Common.{◌≡◌, []}
use Rattle.std.specs.Prelude.{slice_index_or}
use Rattle.minor_heap.specs.Marking.{with_fields}
use Rattle.minor_heap.specs.Spans.{AreFrom}
use Rattle.minor_heap.proofs.heap.MinorHeap.mark_older.Given as goal

abbrev pub invariant-loop-i : goal.invariant-loop-i
invariant-loop-i l =
    (l.marks ≡ with_fields l.i (slice_index_or l.self.records l.r.number []) l.fn.marks)
    × AreFrom l.lowest l.marks
