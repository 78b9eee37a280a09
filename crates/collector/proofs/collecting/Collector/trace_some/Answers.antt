use Rattle.std.proofs.Common.{◌+◌, ◌*◌, sym, ◌∙◌, subst, arith}
use Rattle.collector.specs.Counting.{TracesAtMost}
use Rattle.collector.specs.declared.report.CycleReport.{CycleReport}
use Rattle.collector.proofs.Counted.{at_most_more}
use Rattle.collector.proofs.Joining.{does_both}
use Rattle.collector.proofs.collecting.Collector.trace_some.Goals as goal

pub loop-turn-preserved : goal.loop-turn-preserved
loop-turn-preserved g c = (
  does_both c.loop-turn.report c.trace_once-report.ensures.counts.more c.trace_once-report.result
      c.args.self.now c.loop-turn.self c.trace_once-report.new.self
      c.trace_once-report.ensures.counts.all_are c.loop-turn.invariant.0
      c.trace_once-report.ensures.counts.does,
  subst (λ (r : CycleReport). TracesAtMost (6 * (c.loop-turn._turn + 1)) r)
      (sym c.trace_once-report.ensures.counts.all_are)
      (at_most_more (6 * c.loop-turn._turn) 6 (6 * (c.loop-turn._turn + 1)) c.loop-turn.report
      c.trace_once-report.ensures.counts.more c.loop-turn.invariant.1
      c.trace_once-report.ensures.counts.few (omega arith)),
  c.trace_once-report.ensures.control ∙ c.loop-turn.invariant.2,
  record {
    answered = c.trace_once-report.ensures.kept.answered ∙ c.loop-turn.invariant.3.answered;
    sweep = c.trace_once-report.ensures.kept.sweep ∙ c.loop-turn.invariant.3.sweep;
  },
  c.trace_once-report.ensures.scan,
  c.trace_once-report.ensures.within,
)
