use Rattle.collector.specs.Bound.{mutators_of}
use Rattle.collector.specs.Cycles.{Heard, Reported}
use Rattle.collector.specs.Replay.{fresh_work_of}
use Rattle.collector.proofs.Joining.{stretch_as}
use Rattle.collector.proofs.collecting.Collector.cycle.Goals as goal

pub returns-clause-report : goal.returns-clause-report
returns-clause-report g c =
    stretch_as
    (Heard (fresh_work_of c.args.self.now) (mutators_of c.args.self.now)
    c.one_cycle-made.result.report c.one_cycle-made.result.over)
    (Reported (fresh_work_of c.args.self.now) (mutators_of c.args.self.now)
    c.one_cycle-made.result.report)
    c.args.self.now c.one_cycle-made.new.self
    (λ events heard. heard.reported) c.one_cycle-made.ensures.heard
