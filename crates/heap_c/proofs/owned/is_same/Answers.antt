use Rattle.heap_c.proofs.Enduring.{owned_on}
use Rattle.heap_c.proofs.owned.is_same.Goals as goal

pub returns-clause-owned : goal.returns-clause-owned
returns-clause-owned c =
    owned_on c.args.heap.now c.args.seat.now c.is_same.new.seat c.args.sorts.now c.args.sorts.now
    c.args.local.now c.requires.owned c.is_same.ensures.mine c.is_same.ensures.inside
    c.is_same.ensures.records c.is_same.ensures.longer
