use Rattle.std.proofs.Common.{refl, rules}
use Rattle.mail_threads.proofs.Leaving.{has_received}
use Rattle.mail_threads.proofs.joining.receive_rest.Goals as goal
use Rattle.mail_threads.proofs.joining.receive_rest.Goals.{then-failed, else-failed}

pub returns : goal.returns
returns g c = record {
  received = has_received c.args.heap.now c.args.number c.args.lines c.args.m c.wake.new.m
      c.take_rest-whole.new.m c.args.items.items c.take_rest-whole.new.items.items c.args.failed
      c.take_rest-whole.result c.requires.halfway c.wake.ensures.same
      c.take_rest-whole.ensures.returns c.take_rest-whole.ensures.emptied c.leave.result
      (record { items = c.take_rest-whole.new.items; failed = c.if-failed.result })
      c.leave.ensures.left refl
      (elim c.if-failed.branch [
        | then-failed w ↦ search rules
        | else-failed w ↦ search rules
      ]);
}
