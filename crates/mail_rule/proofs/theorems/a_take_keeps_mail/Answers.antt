use Rattle.mail_rule.proofs.Picking.{take_picks}
use Rattle.mail_rule.proofs.theorems.a_take_keeps_mail.Goals as goal

pub returns : goal.returns
returns c = take_picks
