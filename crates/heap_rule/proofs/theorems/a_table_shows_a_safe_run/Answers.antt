use Rattle.heap_rule.proofs.Showing.{shows_run}
use Rattle.heap_rule.proofs.theorems.a_table_shows_a_safe_run.Goals as goal

pub returns : goal.returns
returns g c = λ h s kept. shows_run g.P.Keeping.opening g.P.Keeping.holds g.P.Keeping.fixed h s kept
