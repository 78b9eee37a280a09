use Rattle.std.proofs.Common.{arith, sym}
use Rattle.heap_c.proofs.Apart.{apart_as, apart_pushed}
use Rattle.heap_c.proofs.Moved.{owned_as}
use Rattle.heap_c.proofs.rooting.push.Goals as goal

pub returns-in-Ok-clause-owned : goal.returns-in-Ok-clause-owned
returns-in-Ok-clause-owned c =
    let inside = sym c.if-not-is_in.ensures.inside in
    let known = c.held_len-held.ensures.known in
    owned_as c.args.heap.now c.args.seat.now c.args.sorts.now _ c.requires.owned.mine inside
    (c.in-Ok.ensures.local c.args.seat.now.me.known (c.requires.owned.inside inside)
    (omega (arith, known)))
    (apart_as _ _ c.in-Ok.ensures.pushed (apart_pushed c.args.local.now.roots c.in-Some.root
    c.requires.owned.apart c.in-Some.ensures.apart))
