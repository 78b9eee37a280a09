use Rattle.heap_rule.proofs.Showing.{found_claimed, used_claimed}
use Rattle.heap_rule.proofs.theorems.what_is_used_was_claimed.Goals as goal

pub returns-clause-now : goal.returns-clause-now
returns-clause-now g c = λ h s k. used_claimed g.P.Keeping.opening g.P.Keeping.holds g.P.Keeping.fixed h k.ledger k.stands

pub returns-clause-found : goal.returns-clause-found
returns-clause-found g c = λ h s k. found_claimed g.P.Keeping.opening g.P.Keeping.holds g.P.Keeping.fixed h k.ledger k.stands
