use Rattle.std.proofs.Common.{take}
use Rattle.dlg_core.specs.Runs.{LeadsTo}
use Rattle.dlg_core.proofs.machine.Core.run.Given as goal

abbrev pub invariant-loop-index : goal.invariant-loop-index
invariant-loop-index l = LeadsTo l.initial.self (take l.index l.events) l.self
