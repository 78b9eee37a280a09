use Rattle.heap_c.proofs.Enduring.{owned_on}
use Rattle.heap_c.proofs.owned.read_all.Goals as goal

pub returns-clause-owned : goal.returns-clause-owned
returns-clause-owned c =
    owned_on c.args.heap.now c.args.seat.now c.read_all.new.seat c.args.sorts.now
    c.read_all.new.sorts c.args.local.now c.requires.owned c.read_all.ensures.mine
    c.read_all.ensures.inside c.read_all.ensures.records c.read_all.ensures.longer
