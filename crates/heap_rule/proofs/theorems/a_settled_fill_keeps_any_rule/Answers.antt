use Rattle.heap_rule.proofs.Filling.{fill_picks}
use Rattle.heap_rule.proofs.theorems.a_settled_fill_keeps_any_rule.Goals as goal

pub returns : goal.returns
returns g c = λ v place f value names.
    fill_picks g.P.Keeping.holds g.P.Keeping.fixed v place f value names
