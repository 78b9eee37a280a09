use Rattle.mail_rule.proofs.Counts.{boxes_few, sends_few}
use Rattle.mail_rule.proofs.theorems.items_are_few.Goals as goal

pub returns : goal.returns
returns c = record { sent = sends_few; boxes = boxes_few }
