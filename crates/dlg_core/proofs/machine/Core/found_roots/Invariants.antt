use Rattle.dlg_core.specs.Search.{RootsSoFar}
use Rattle.dlg_core.proofs.machine.Core.found_roots.Given as goal

abbrev pub invariant-loop-m : goal.invariant-loop-m
invariant-loop-m l = RootsSoFar l.self l.m l.found
