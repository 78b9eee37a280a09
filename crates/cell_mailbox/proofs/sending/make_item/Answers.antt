use Rattle.std.proofs.Common.{length}
use Rattle.cell_mailbox.proofs.Making.{may_item}
use Rattle.cell_mailbox.proofs.sending.make_item.Goals as goal

pub fill_box-requires-clause-named : goal.fill_box-requires-clause-named
fill_box-requires-clause-named g c =
    let m = c.args.m.now in
    may_item m.seat.me (length m.seat.me.own.held) c.args.item c.requires.position
    c.requires.sender c.requires.value
