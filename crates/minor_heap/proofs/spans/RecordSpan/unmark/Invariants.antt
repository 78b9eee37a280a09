use Rattle.minor_heap.specs.Spans.{AreWithin}
use Rattle.minor_heap.proofs.spans.RecordSpan.unmark.Given as goal

abbrev pub invariant-loop-number : goal.invariant-loop-number
invariant-loop-number l = AreWithin (record { first = l.number; end = l.fn.self.end }) l.marks
