use Rattle.std.proofs.Common.{Option, IfNone, IfSome, subst}
use Rattle.cell_mailbox.specs.Ends.{FindsEmpty, Takes}
use Rattle.mail_rule.specs.declared.items.Item.{Item}
use Rattle.mail_threads.proofs.Turns.{turn_all}
use Rattle.mail_threads.proofs.receiving.take_one.Goals as goal

pub returns : goal.returns
returns g c = record {
  takes = turn_all c.take.result c.args.m.now c.take.new.m c.held_len-held.ensures.left
      (λ item is. subst (λ (o : Option Item).
      IfSome o (λ (item : Item). Takes c.args.m.now c.take.new.m item)) is c.take.ensures.took)
      (λ is. subst (λ (o : Option Item). IfNone o (FindsEmpty c.args.m.now c.take.new.m)) is
      c.take.ensures.none);
}
