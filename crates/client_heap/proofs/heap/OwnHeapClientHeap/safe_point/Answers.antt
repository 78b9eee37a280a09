use Rattle.std.proofs.Common.{ap, arith, refl}
use Rattle.client_heap.proofs.Lending.{lent_stays}
use Rattle.client_heap.proofs.Resting.{rests_on, sound_on, still_on}
use Rattle.version_rule.specs.Pass.{commit_numbers}
use Rattle.client_heap.proofs.heap.OwnHeapClientHeap.safe_point.Goals as goal

pub invariant_of-self : goal.invariant_of-self
invariant_of-self g c =
    let carried = rw c.heap.ensures.heap at c.safe_point.ensures.carries in
    let bound = g.M.ClientSeat.bound in
    let was = c.args.self.now in
    record {
      sound = sound_on _ (bound was.m.now) (bound c.safe_point.new.self) was.nursery.now.heap
          was.nursery.now.heap carried was.draft was.base was.sound was.sound.kept was.sound.ready;
      whole = was.whole;
      copies = was.copies;
    }

pub returns-clause-rests : goal.returns-clause-rests
returns-clause-rests g c =
    let carried = rw c.heap.ensures.heap at c.safe_point.ensures.carries in
    let bound = g.M.ClientSeat.bound in
    let was = c.args.self.now in
    let did = c.safe_point.ensures in
    let same = did.held in
    rests_on _ (bound was.m.now) (bound c.safe_point.new.self) was.nursery.now.heap
    was.nursery.now.heap carried was.draft was.base was.sound was.sound.kept 0
    (ap commit_numbers did.pass) did.claims refl (omega (arith, same))

pub returns-clause-still : goal.returns-clause-still
returns-clause-still g c =
    let carried = rw c.heap.ensures.heap at c.safe_point.ensures.carries in
    let bound = g.M.ClientSeat.bound in
    let was = c.args.self.now in
    still_on (bound was.m.now) (bound c.safe_point.new.self) was.nursery.now.heap
    was.nursery.now.heap carried

pub returns-clause-lent : goal.returns-clause-lent
returns-clause-lent g c =
    let bound = g.M.ClientSeat.bound in
    let did = c.safe_point.ensures in
    lent_stays (bound c.args.self.now.m.now) (bound c.safe_point.new.self)
    did.carries.follows.same refl refl refl
