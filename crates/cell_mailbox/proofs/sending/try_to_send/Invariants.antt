-- the item is sent, where there is still null after the last one
use Rattle.mail_rule.specs.Knowing.{next_sent}
use Rattle.cell_mailbox.proofs.sending.try_to_send.Given as goal

abbrev pub ghosts-link : goal.ghosts-link
ghosts-link g a = record { next = next_sent a.sent }
