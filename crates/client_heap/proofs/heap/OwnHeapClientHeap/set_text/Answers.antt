use Rattle.std.proofs.Common.{arith, refl}
use Rattle.client_heap.proofs.Calls.{left_edits, left_sound, left_still}
use Rattle.client_heap.proofs.Carrying.{left_same}
use Rattle.client_heap.proofs.Lending.{lent_stays}
use Rattle.client_heap.proofs.heap.OwnHeapClientHeap.set_text.Goals as goal

pub invariant_of-self : goal.invariant_of-self
invariant_of-self g c =
    let left = rw c.heap_mut.ensures.heap at c.set_text.ensures.leaves in
    let few = rw c.heap_mut.ensures.heap at c.set_text.ensures.records in
    let bound = g.M.ClientSeat.bound in
    let was = c.args.self.now in
    let did = c.set_text.ensures in
    let room = c.requires.room in
    let same = left.records_room in
    let fits = was.copies in
    record {
      sound = left_sound (bound was.m.now) (bound c.set_text.new.m) was.nursery.now.heap
          c.set_text.new.minor left was.draft was.base was.sound few did.held (omega (arith, room));
      whole =
          let room = left.records_room in
          let same = was.whole in omega (arith, room, same);
      copies = omega (arith, same, fits);
    }

pub returns-clause-edits : goal.returns-clause-edits
returns-clause-edits g c =
    let left = rw c.heap_mut.ensures.heap at c.set_text.ensures.leaves in
    let few = rw c.heap_mut.ensures.heap at c.set_text.ensures.records in
    let bound = g.M.ClientSeat.bound in
    let was = c.args.self.now in
    let did = c.set_text.ensures in
    left_edits (bound was.m.now) (bound c.set_text.new.m) was.nursery.now.heap
    c.set_text.new.minor left was.draft was.base was.sound few did.held

pub returns-clause-still : goal.returns-clause-still
returns-clause-still g c =
    let left = rw c.heap_mut.ensures.heap at c.set_text.ensures.leaves in
    let bound = g.M.ClientSeat.bound in
    let was = c.args.self.now in
    left_still (bound was.m.now) (bound c.set_text.new.m) was.nursery.now.heap
    c.set_text.new.minor left

pub returns-clause-lent : goal.returns-clause-lent
returns-clause-lent g c =
    let left = rw c.heap_mut.ensures.heap at c.set_text.ensures.leaves in
    let bound = g.M.ClientSeat.bound in
    lent_stays (bound c.args.self.now.m.now) (bound c.set_text.new.m) (left_same _ _ _ _ left)
    refl left.records_room refl
