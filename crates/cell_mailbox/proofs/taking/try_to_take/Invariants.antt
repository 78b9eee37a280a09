-- the item is taken, where the anchor still names the one before it
use Rattle.cell_words.specs.declared.fields.Field.TheVariants as field
use Rattle.heap_rule.specs.Asks.{target}
use Rattle.mail_rule.specs.Knowing.{next_taken}
use Rattle.cell_mailbox.proofs.taking.try_to_take.Given as goal

abbrev pub ghosts-go_on : goal.ghosts-go_on
ghosts-go_on a =
    record { next = next_taken (field.Cell (target a.m.now.seat.me a.latest)) a.item }
