use Rattle.dlg_core.specs.Search.{HeldSoFar}
use Rattle.dlg_core.proofs.machine.Core.add_held.Given as goal

abbrev pub invariant-loop-place : goal.invariant-loop-place
invariant-loop-place l = HeldSoFar l.self l.m l.place-index l.initial.found l.found
