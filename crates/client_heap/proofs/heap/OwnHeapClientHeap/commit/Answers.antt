use Rattle.std.proofs.Common.{refl}
use Rattle.client_heap.proofs.Resting.{draft_on, sound_on, still_on}
use Rattle.client_heap.proofs.Lending.{lent_stays}
use Rattle.client_heap.proofs.heap.OwnHeapClientHeap.commit.Goals as goal

pub invariant_of-self : goal.invariant_of-self
invariant_of-self g c =
    let carried = rw c.heap.ensures.heap at c.commit.ensures.carries in
    let bound = g.M.ClientSeat.bound in
    let was = c.args.self.now in
    record {
      sound = sound_on _ (bound was.m.now) (bound c.commit.new.self) was.nursery.now.heap
          was.nursery.now.heap carried was.draft was.base was.sound was.sound.kept was.sound.ready;
      whole = was.whole;
      copies = was.copies;
    }

pub returns-clause-draft : goal.returns-clause-draft
returns-clause-draft g c =
    let carried = rw c.heap.ensures.heap at c.commit.ensures.carries in
    let bound = g.M.ClientSeat.bound in
    let was = c.args.self.now in
    draft_on _ (bound was.m.now) (bound c.commit.new.self) was.nursery.now.heap
    was.nursery.now.heap carried was.draft was.base was.sound was.sound.kept

pub returns-clause-still : goal.returns-clause-still
returns-clause-still g c =
    let carried = rw c.heap.ensures.heap at c.commit.ensures.carries in
    let bound = g.M.ClientSeat.bound in
    let was = c.args.self.now in
    still_on (bound was.m.now) (bound c.commit.new.self) was.nursery.now.heap was.nursery.now.heap
    carried

pub returns-clause-lent : goal.returns-clause-lent
returns-clause-lent g c =
    let bound = g.M.ClientSeat.bound in
    let did = c.commit.ensures in
    lent_stays (bound c.args.self.now.m.now) (bound c.commit.new.self) did.carries.follows.same
    did.queue refl refl
