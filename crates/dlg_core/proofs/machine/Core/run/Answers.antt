use Rattle.std.proofs.Common.{subst}
use Rattle.dlg_core.specs.Kept.{IsKept}
use Rattle.dlg_core.proofs.Collects.Cycles.{kept_collects}
use Rattle.dlg_core.proofs.Longer.{leads_next}
use Rattle.dlg_core.proofs.Throughout.{kept_safe}
use Rattle.dlg_core.proofs.machine.Core.run.Goals as goal

pub returns-in-Err-clause-safe : goal.returns-in-Err-clause-safe
returns-in-Err-clause-safe c = kept_safe c.args.self.now c.args.events.now
    (subst IsKept c.self.view_is c.self.invariant)

pub loop-index-preserved : goal.loop-index-preserved
loop-index-preserved c =
    leads_next c.args.self.now c.args.events.now c.loop-index.index _ c.loop-index.self
    c.apply.new.self
    c.loop-index-test.true c.loop-index.invariant c.in_default.ensures.event

pub returns-clause-safe : goal.returns-clause-safe
returns-clause-safe c = kept_safe c.args.self.now c.args.events.now
    (subst IsKept c.self.view_is c.self.invariant)

pub returns-in-Err-clause-collects : goal.returns-in-Err-clause-collects
returns-in-Err-clause-collects c = kept_collects c.args.self.now c.args.events.now
    (subst IsKept c.self.view_is c.self.invariant)

pub returns-clause-collects : goal.returns-clause-collects
returns-clause-collects c = kept_collects c.args.self.now c.args.events.now
    (subst IsKept c.self.view_is c.self.invariant)
