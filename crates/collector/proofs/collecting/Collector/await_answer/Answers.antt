use Rattle.std.proofs.Common.{◌+◌, Bool, ◌∙◌, ap}
use Rattle.core_machine.specs.Collector.{answered_by}
use Rattle.collector.specs.Bound.{part_of}
use Rattle.collector.specs.Counting.{nothing}
use Rattle.collector.proofs.Hearing.{hears_after, hears_does}
use Rattle.collector.proofs.Joining.{does_and}
use Rattle.collector.proofs.collecting.Collector.await_answer.Goals as goal

pub returns-then-tried-clause-hears : goal.returns-then-tried-clause-hears
returns-then-tried-clause-hears g c =
    hears_after c.try_answer-tried.result.over c.args.mutator (c.args.mutator + 1)
    c.args.self.now c.loop.self c.try_answer-tried.new.self c.loop.invariant.0
    c.try_answer-tried.ensures.hears

pub loop-preserved : goal.loop-preserved
loop-preserved g c = (
  does_and nothing c.args.self.now c.loop.self c.try_answer-tried.new.self c.loop.invariant.0
      (hears_does c.try_answer-tried.result.over c.args.mutator (c.args.mutator + 1) c.loop.self
      c.try_answer-tried.new.self c.try_answer-tried.ensures.hears),
  c.try_answer-tried.ensures.control ∙ c.loop.invariant.1,
  c.try_answer-tried.ensures.part
      ∙ ap (λ (b : Bool). answered_by (part_of c.loop.self) c.args.mutator b) c.if-tried.false
      ∙ c.loop.invariant.2,
)
