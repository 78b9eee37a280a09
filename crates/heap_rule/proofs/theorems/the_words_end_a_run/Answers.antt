use Rattle.heap_rule.proofs.Showing.{last_of}
use Rattle.heap_rule.proofs.theorems.the_words_end_a_run.Goals as goal

pub returns : goal.returns
returns g c = λ h s k. last_of g.P.Keeping.opening g.P.Keeping.holds g.P.Keeping.fixed h k.ledger s.words k.stands k.words_are
