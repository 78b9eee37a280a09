use Rattle.heap_rule.proofs.Showing.{freed_behind}
use Rattle.heap_rule.proofs.theorems.garbage_of_a_run_is_freed.Goals as goal

pub returns : goal.returns
returns g c = λ h s k. freed_behind g.P.Keeping.opening g.P.Keeping.holds g.P.Keeping.fixed h k.ledger k.stands
