use Rattle.dlg_core.specs.Left.{left}
use Rattle.dlg_core.proofs.Finishing.Cycles.{IsSoFar}
use Rattle.dlg_core.proofs.machine.Core.turns.Given as goal

abbrev pub invariant-loop-taken : goal.invariant-loop-taken
invariant-loop-taken l = IsSoFar l.initial.self l.taken l.self

abbrev pub decreases-loop-taken : goal.decreases-loop-taken
decreases-loop-taken l = left l.self
