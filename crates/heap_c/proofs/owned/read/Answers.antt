use Rattle.heap_c.proofs.Enduring.{owned_on}
use Rattle.heap_c.proofs.owned.read.Goals as goal

pub returns-clause-owned : goal.returns-clause-owned
returns-clause-owned c =
    owned_on c.args.heap.now c.args.seat.now c.read.new.seat c.args.sorts.now c.read.new.sorts
    c.args.local.now c.requires.owned c.read.ensures.mine c.read.ensures.inside
    c.read.ensures.records c.read.ensures.longer
