use Rattle.dlg_core.specs.Search.{NamedSoFar}
use Rattle.dlg_core.proofs.machine.Core.add_named.Given as goal

abbrev pub invariant-loop-i : goal.invariant-loop-i
invariant-loop-i l = NamedSoFar l.self l.cell l.i l.initial.found l.found
