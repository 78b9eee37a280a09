use Rattle.std.proofs.Common.{◌∙◌, List, All, ap, arith, subst, sym}
use Rattle.minor_heap.specs.declared.fields.MinorRef.{MinorRef}
use Rattle.minor_heap.specs.Nursery.{Nursery, Stands}
use Rattle.local_references.specs.Roots.{Stack, private_of}
use Rattle.local_references.proofs.Ranks.{private_stand}
use Rattle.local_records.specs.Local.{AreLocal, IsLocal, Local}
use Rattle.local_records.proofs.local.LocalRecords.copy_slice.Goals as goal

pub copy_reached-progress-requires : goal.copy_reached-progress-requires
copy_reached-progress-requires g c =
    let known = c.args.seat.now.me.known in
    let nursery = c.self.inside.nursery in
    let table = c.self.inside.table in
    let roots = c.self.inside.stack.roots in
    let heap = sym c.heap-minor.ensures.heap in
    let room = ap (λ (n : Nursery). n.room) heap in
    let was = subst (λ (l : Local). IsLocal l known) (sym c.self.view_is) c.requires.local in
    record {
      seat = c.requires.seat;
      inside = c.requires.inside;
      room = c.requires.room;
      fits = omega (arith, c.spare-spare.ensures.spare, room, c.self.invariant.serves);
      stand = subst
          (λ (refs : List MinorRef). All (Stands c.heap-minor.result.now.records) refs)
          (sym (c.taken-from.ensures.taken
          ∙ ap (λ (s : Stack). s.taken) c.take_private.ensures.taken))
          (subst (λ (n : Nursery). All (Stands n.records) (private_of roots)) heap
          (private_stand nursery.heap.records roots c.self.invariant.stand));
      local = subst
          (λ (n : Nursery). AreLocal known c.self.inside.named n.records table.copied table.places
          c.take_private.new.self.roots) heap
          (subst
          (λ (s : Stack). AreLocal known c.self.inside.named nursery.heap.records table.copied
          table.places s.roots) (sym c.take_private.ensures.taken) was);
    }
