use Rattle.minor_heap.proofs.Spanning.{within_next, within_none}
use Rattle.minor_heap.proofs.spans.RecordSpan.unmark.Goals as goal

pub loop-number-preserved : goal.loop-number-preserved
loop-number-preserved c =
    within_next c.loop-number.number c.args.self.end c.loop-number.marks c.loop-number.invariant

pub returns-clause-none : goal.returns-clause-none
returns-clause-none c =
    within_none c.loop-number.number c.args.self.end c.loop-number.marks c.loop-number-test.false
    c.loop-number.invariant
