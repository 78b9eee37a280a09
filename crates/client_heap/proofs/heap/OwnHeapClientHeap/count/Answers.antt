use Rattle.std.proofs.Common.{arith, refl}
use Rattle.client_heap.proofs.Calls.{all_rests, all_sound, all_still}
use Rattle.client_heap.proofs.Carrying.{left_same}
use Rattle.client_heap.proofs.Lending.{lent_stays}
use Rattle.client_heap.proofs.heap.OwnHeapClientHeap.count.Goals as goal

pub invariant_of-self : goal.invariant_of-self
invariant_of-self g c =
    let all = rw c.heap_mut.ensures.heap at c.count.ensures.leaves in
    let bound = g.M.ClientSeat.bound in
    let was = c.args.self.now in
    record {
      sound = all_sound (bound was.m.now) (bound c.count.new.m) was.nursery.now.heap
          c.count.new.minor all was.draft was.base was.sound;
      whole =
          let room = all.leaves.records_room in
          let same = was.whole in omega (arith, room, same);
      copies = let room = all.leaves.records_room in
          let fits = was.copies in omega (arith, room, fits);
    }

pub returns-clause-rests : goal.returns-clause-rests
returns-clause-rests g c =
    let all = rw c.heap_mut.ensures.heap at c.count.ensures.leaves in
    let bound = g.M.ClientSeat.bound in
    let was = c.args.self.now in
    all_rests (bound was.m.now) (bound c.count.new.m) was.nursery.now.heap c.count.new.minor all
    was.draft was.base was.sound

pub returns-clause-still : goal.returns-clause-still
returns-clause-still g c =
    let all = rw c.heap_mut.ensures.heap at c.count.ensures.leaves in
    let bound = g.M.ClientSeat.bound in
    let was = c.args.self.now in
    all_still (bound was.m.now) (bound c.count.new.m) was.nursery.now.heap c.count.new.minor all

pub returns-clause-lent : goal.returns-clause-lent
returns-clause-lent g c =
    let all = rw c.heap_mut.ensures.heap at c.count.ensures.leaves in
    let bound = g.M.ClientSeat.bound in
    lent_stays (bound c.args.self.now.m.now) (bound c.count.new.m) (left_same _ _ _ _ all.leaves)
    refl all.leaves.records_room refl
