use Rattle.cell_words.specs.declared.fields.Field.TheVariants as field
use Rattle.heap_rule.specs.Asks.{target}
use Rattle.mutator_events.specs.declared.values.Value.TheVariants as values
use Rattle.cell_mailbox.proofs.Pacing.{paces_either}
use Rattle.cell_mailbox.proofs.taking.go_on.Goals as goal

pub returns-clause-pace : goal.returns-clause-pace
returns-clause-pace g c =
    paces_either _ c.args.m.now c.update.new.self 0 0 (values.Held c.args.latest)
    (values.Held c.args.next) (field.Cell (target c.args.m.now.seat.me c.args.latest))
    c.update.result c.update.ensures.made c.update.ensures.moved
