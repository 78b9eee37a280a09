use Rattle.sorted_rule.proofs.Picking.{itself_picks}
use Rattle.sorted_rule.proofs.theorems.a_new_box_may_name_itself.Goals as goal

pub returns : goal.returns
returns c = itself_picks
