use Rattle.mail_rule.proofs.Picking.{send_picks}
use Rattle.mail_rule.proofs.theorems.a_send_keeps_mail.Goals as goal

pub returns : goal.returns
returns c = send_picks
