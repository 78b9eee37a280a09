use Rattle.std.proofs.Common.{ap, sym}
use Rattle.local_records.specs.Local.{Local}
use Rattle.heap_c.proofs.Apart.{apart_as, apart_cut}
use Rattle.heap_c.proofs.Moved.{owned_as}
use Rattle.heap_c.proofs.rooting.pop.Goals as goal

pub returns-clause-owned : goal.returns-clause-owned
returns-clause-owned c =
    let inside = sym c.if-not-is_in.ensures.inside in
    owned_as c.args.heap.now c.args.seat.now c.args.sorts.now _ c.requires.owned.mine inside
    (c.keep_roots.ensures.local c.args.seat.now.me.known (c.requires.owned.inside inside))
    (apart_as _ _ (ap (λ (l : Local). l.roots) c.keep_roots.ensures.first)
    (apart_cut _ c.args.local.now.roots c.requires.owned.apart))
