use Rattle.std.proofs.Common.{arith}
use Rattle.heap_c.proofs.Enduring.{owned_first}
use Rattle.heap_c.proofs.owned.make_at.Goals as goal

pub returns-clause-owned : goal.returns-clause-owned
returns-clause-owned c =
    owned_first c.args.heap.now c.args.seat.now c.make_at.new.seat c.args.sorts.now
    c.make_at.new.sorts c.args.local.now c.requires.owned c.make_at.ensures.mine
    c.make_at.ensures.inside c.args.first
    (omega (arith, c.named.ensures.named, c.if-first-named.false)) c.make_at.ensures.records
    c.make_at.ensures.longer
