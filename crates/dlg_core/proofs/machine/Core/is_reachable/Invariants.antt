use Rattle.dlg_core.specs.Search.{IsSearch, left_to_do}
use Rattle.dlg_core.proofs.machine.Core.is_reachable.Given as goal

abbrev pub invariant-loop-next : goal.invariant-loop-next
invariant-loop-next l = IsSearch l.self l.found

abbrev pub decreases-loop-next : goal.decreases-loop-next
decreases-loop-next l = left_to_do l.found
