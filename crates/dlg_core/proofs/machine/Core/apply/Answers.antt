use Rattle.dlg_core.proofs.Safety.{consistent_safe}
use Rattle.dlg_core.proofs.Throughout.{takes_consistent}
use Rattle.dlg_core.proofs.machine.Core.apply.Goals as goal

pub invariant_of-self : goal.invariant_of-self
invariant_of-self c = record {
  range = c.apply.ensures.range;
  consistent = takes_consistent c.apply.result _ c.apply.new.self c.args.event
      c.self.invariant.range c.self.invariant.consistent
      c.apply.ensures.event;
}

pub returns-clause-safe : goal.returns-clause-safe
returns-clause-safe c =
    consistent_safe c.apply.new.self
    (takes_consistent c.apply.result _ c.apply.new.self c.args.event c.self.invariant.range
    c.self.invariant.consistent c.apply.ensures.event)
