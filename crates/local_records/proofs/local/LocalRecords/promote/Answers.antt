use Rattle.std.proofs.Common.{ap, arith, subst, sym}
use Rattle.minor_heap.specs.Nursery.{Nursery, Stands}
use Rattle.local_records.specs.Local.{AreLocal, IsLocal, Local}
use Rattle.local_records.proofs.local.LocalRecords.promote.Goals as goal

pub copy_one-copy-requires : goal.copy_one-copy-requires
copy_one-copy-requires g c =
    let known = c.args.seat.now.me.known in
    let table = c.self.inside.table in
    let heap = sym c.heap-minor.ensures.heap in
    let room = ap (λ (n : Nursery). n.room) heap in
    let was = subst (λ (l : Local). IsLocal l known) (sym c.self.view_is) c.requires.local in
    let stands = subst (λ (l : Local). Stands l.records c.args.r) (sym c.self.view_is)
    c.requires.stands in
    record {
      seat = c.requires.seat;
      inside = c.requires.inside;
      room = c.requires.room;
      fits = omega (arith, c.spare-spare.ensures.spare, room, c.self.invariant.serves);
      stands = subst (λ (n : Nursery). Stands n.records c.args.r) heap stands;
      local = subst
          (λ (n : Nursery). AreLocal known c.self.inside.named n.records table.copied table.places
          c.self.inside.stack.roots) heap was;
    }
