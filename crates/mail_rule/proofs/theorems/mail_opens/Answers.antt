use Rattle.mail_rule.proofs.Openings.{firsts, opened}
use Rattle.mail_rule.proofs.theorems.mail_opens.Goals as goal

pub returns : goal.returns
returns c = record { terms = firsts; holds = opened }
