use Rattle.heap_c.proofs.Enduring.{owned_on}
use Rattle.heap_c.proofs.owned.swap.Goals as goal

pub returns-clause-owned : goal.returns-clause-owned
returns-clause-owned c =
    owned_on c.args.heap.now c.args.seat.now c.swap.new.seat c.args.sorts.now c.args.sorts.now
    c.args.local.now c.requires.owned c.swap.ensures.mine c.swap.ensures.inside
    c.swap.ensures.records c.swap.ensures.longer
