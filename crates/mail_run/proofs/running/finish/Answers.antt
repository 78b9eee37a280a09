use Rattle.std.proofs.Common.{Bool, List, subst, sym}
use Rattle.mail_rule.specs.declared.items.Item.{Item}
use Rattle.mail_threads.specs.Taken.{lists_of}
use Rattle.mail_run.specs.Closed.{AreThrough}
use Rattle.mail_run.specs.Comes.{ComesMail}
use Rattle.mail_run.proofs.Coming.{comes}
use Rattle.mail_run.proofs.running.finish.Goals as goal

pub returns : goal.returns
returns c =
    let closed = c.requires.closed in
    let scripts = lists_of c.args.scripts.now in
    let sent = c.args.closed.sent.items in
    let taken = c.args.closed.received.items.items in
    let heap = c.args.closed.heap in
    let v = heap.passes in
    subst (λ (items : List Item). ComesMail c.args.cells c.args.cycles scripts sent items v)
    (sym (c.if-not-whole.ensures.rest closed.ended.shows.core closed.shown))
    (comes c.args.cells scripts sent taken heap.image.words v closed.ended
    (subst (λ (failed : Bool). AreThrough c.args.cells scripts sent taken failed v.places)
    c.if-failed.false closed.through) c.args.cycles heap.freed closed.collected)
