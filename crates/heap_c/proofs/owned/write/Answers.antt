use Rattle.heap_c.proofs.Enduring.{owned_on}
use Rattle.heap_c.proofs.owned.write.Goals as goal

pub returns-clause-owned : goal.returns-clause-owned
returns-clause-owned c =
    owned_on c.args.heap.now c.args.seat.now c.write.new.seat c.args.sorts.now c.args.sorts.now
    c.args.local.now c.requires.owned c.write.ensures.mine c.write.ensures.inside
    c.write.ensures.records c.write.ensures.longer
