use Rattle.heap_c.proofs.Enduring.{owned_on}
use Rattle.heap_c.proofs.owned.answer.Goals as goal

pub returns-clause-owned : goal.returns-clause-owned
returns-clause-owned c =
    owned_on c.args.heap.now c.args.seat.now c.answer.new.seat c.args.sorts.now c.args.sorts.now
    c.args.local.now c.requires.owned c.answer.ensures.mine c.answer.ensures.inside
    c.answer.ensures.records c.answer.ensures.longer
