use Rattle.std.proofs.Common.{arith}
use Rattle.heap_c.proofs.Enduring.{owned_first}
use Rattle.heap_c.proofs.owned.keep.Goals as goal

pub returns-clause-owned : goal.returns-clause-owned
returns-clause-owned c =
    owned_first c.args.heap.now c.args.seat.now c.keep.new.seat c.args.sorts.now c.keep.new.sorts
    c.args.local.now c.requires.owned c.keep.ensures.mine c.keep.ensures.inside c.args.n
    (omega (arith, c.named.ensures.named, c.if-n-named.false)) c.keep.ensures.records
    c.keep.ensures.longer
