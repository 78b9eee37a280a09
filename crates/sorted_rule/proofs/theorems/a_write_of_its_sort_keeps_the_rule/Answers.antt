use Rattle.sorted_rule.proofs.Picking.{store_picks, write_picks}
use Rattle.sorted_rule.proofs.theorems.a_write_of_its_sort_keeps_the_rule.Goals as goal

pub returns : goal.returns
returns c = record { exchanged = write_picks; stored = store_picks }
