use Rattle.sorted_rule.proofs.Openings.{firsts, opened}
use Rattle.sorted_rule.proofs.theorems.sorted_opens.Goals as goal

pub returns : goal.returns
returns c = record { terms = firsts; holds = opened }
