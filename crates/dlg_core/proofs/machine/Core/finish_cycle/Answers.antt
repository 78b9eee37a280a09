use Rattle.std.proofs.Common.{subst}
use Rattle.dlg_core.specs.Safe.{IsSafe}
use Rattle.dlg_core.proofs.Safety.{consistent_safe}
use Rattle.dlg_core.proofs.machine.Core.finish_cycle.Goals as goal

-- nothing has changed
pub returns-then-not-may_finish-clause-safe : goal.returns-then-not-may_finish-clause-safe
returns-then-not-may_finish-clause-safe c =
    subst IsSafe c.self.view_is (consistent_safe _ c.self.invariant.consistent)
