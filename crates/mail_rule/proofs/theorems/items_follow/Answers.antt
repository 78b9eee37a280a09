use Rattle.mail_rule.proofs.Chaining.{after}
use Rattle.mail_rule.proofs.theorems.items_follow.Goals as goal

pub returns : goal.returns
returns c = after
