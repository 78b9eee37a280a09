use Rattle.std.proofs.Common.{◌<◌, ◌≤◌}
use Rattle.std.specs.List.{Contains}
use Rattle.minor_heap.specs.declared.fields.MinorRef.{MinorRef}
use Rattle.minor_heap.specs.Reaches.{IsMarked}
use Rattle.minor_heap.specs.Spans.{AreFrom}
use Rattle.minor_heap.proofs.Passing.{MarksFrom}
use Rattle.minor_heap.proofs.heap.MinorHeap.mark_span.Given as goal

abbrev pub invariant-loop-first : goal.invariant-loop-first
invariant-loop-first l = record {
  so : MarksFrom l.self.records (Contains l.from) l.marks l.number;
  from : AreFrom l.first l.marks;
  below : (r : MinorRef) → IsMarked l.marks r → r.number < l.roots.end;
  number : l.number ≤ l.roots.end;
}

abbrev pub decreases-loop-first : goal.decreases-loop-first
decreases-loop-first l = l.number
