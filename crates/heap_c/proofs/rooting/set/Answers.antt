use Rattle.std.proofs.Common.{arith, sym}
use Rattle.heap_c.proofs.Apart.{apart_as, apart_set}
use Rattle.heap_c.proofs.Moved.{owned_as}
use Rattle.heap_c.proofs.rooting.set.Goals as goal

pub returns-clause-owned : goal.returns-clause-owned
returns-clause-owned c =
    let inside = sym c.if-not-is_in.ensures.inside in
    let known = c.held_len-held.ensures.known in
    owned_as c.args.heap.now c.args.seat.now c.args.sorts.now _ c.requires.owned.mine inside
    (c.set.ensures.local c.args.seat.now.me.known (c.requires.owned.inside inside)
    (omega (arith, known)))
    (apart_as _ _ c.set.ensures.set (apart_set c.args.local.now.roots c.args.i c.in-Some.root
    c.requires.owned.apart c.in-Some.ensures.apart))
