use Rattle.heap_rule.proofs.Showing.{sums_agree}
use Rattle.heap_rule.proofs.theorems.claims_and_frees_agree.Goals as goal

pub returns : goal.returns
returns g c = λ h s k. sums_agree g.P.Keeping.opening g.P.Keeping.holds g.P.Keeping.fixed h k.ledger k.stands
