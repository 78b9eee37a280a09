use Rattle.heap_c.proofs.Enduring.{owned_begun}
use Rattle.heap_c.proofs.owned.begin.Goals as goal

pub returns-clause-owned : goal.returns-clause-owned
returns-clause-owned c =
    owned_begun c.args.heap.now c.args.seat.now c.begin.new.seat c.args.sorts.now c.args.local.now
    c.begin.result c.requires.owned c.begin.ensures.mine c.begin.ensures.begun
