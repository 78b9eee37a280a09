use Rattle.heap_rule.proofs.Picking.{fetch_picks, read_picks}
use Rattle.heap_rule.proofs.theorems.a_read_keeps_any_rule.Goals as goal

pub returns : goal.returns
returns g c = record {
  read = λ v i place f. read_picks g.P.Keeping.holds g.P.Keeping.fixed v i place f;
  fetch = λ v i place f. fetch_picks g.P.Keeping.holds g.P.Keeping.fixed v i place f;
}
