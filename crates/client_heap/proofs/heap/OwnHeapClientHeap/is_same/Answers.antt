use Rattle.std.proofs.Common.{ap, arith, refl}
use Rattle.client_heap.proofs.Resting.{rests_on, sound_on, still_on}
use Rattle.version_rule.specs.Pass.{commit_numbers}
use Rattle.client_heap.proofs.heap.OwnHeapClientHeap.is_same.Goals as goal

pub invariant_of-self : goal.invariant_of-self
invariant_of-self g c =
    let carried = rw c.heap.ensures.heap at c.is_same.ensures.carries in
    let bound = g.M.ClientSeat.bound in
    let was = c.args.self.now in
    record {
      sound = sound_on _ (bound was.m.now) (bound c.is_same.new.self) was.nursery.now.heap
          was.nursery.now.heap carried was.draft was.base was.sound was.sound.kept was.sound.ready;
      whole = was.whole;
      copies = was.copies;
    }

pub returns-in-Shared-Shared-clause-rests : goal.returns-in-Shared-Shared-clause-rests
returns-in-Shared-Shared-clause-rests g c =
    let carried = rw c.heap.ensures.heap at c.is_same.ensures.carries in
    let bound = g.M.ClientSeat.bound in
    let was = c.args.self.now in
    let did = c.is_same.ensures in
    let same = did.held in
    rests_on _ (bound was.m.now) (bound c.is_same.new.self) was.nursery.now.heap
    was.nursery.now.heap carried was.draft was.base was.sound was.sound.kept 0
    (ap commit_numbers did.pass) did.claims refl (omega (arith, same))

pub returns-in-Shared-Shared-clause-still : goal.returns-in-Shared-Shared-clause-still
returns-in-Shared-Shared-clause-still g c =
    let carried = rw c.heap.ensures.heap at c.is_same.ensures.carries in
    let bound = g.M.ClientSeat.bound in
    let was = c.args.self.now in
    still_on (bound was.m.now) (bound c.is_same.new.self) was.nursery.now.heap was.nursery.now.heap
    carried
