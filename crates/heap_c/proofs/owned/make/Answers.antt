use Rattle.heap_c.proofs.Enduring.{owned_on}
use Rattle.heap_c.proofs.owned.make.Goals as goal

pub returns-clause-owned : goal.returns-clause-owned
returns-clause-owned c =
    owned_on c.args.heap.now c.args.seat.now c.make.new.seat c.args.sorts.now c.make.new.sorts
    c.args.local.now c.requires.owned c.make.ensures.mine c.make.ensures.inside
    c.make.ensures.records c.make.ensures.longer
