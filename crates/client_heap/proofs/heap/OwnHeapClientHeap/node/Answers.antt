use Rattle.std.proofs.Common.{ap, arith, length, refl}
use Rattle.doc_tree.proofs.Orderly.{path_short}
use Rattle.client_heap.proofs.Resting.{rests_on, sound_on, still_on}
use Rattle.version_rule.specs.Pass.{commit_numbers}
use Rattle.client_heap.proofs.Lending.{lent_stays}
use Rattle.client_heap.proofs.heap.OwnHeapClientHeap.node.Goals as goal

pub node_below-requires-clause-room : goal.node_below-requires-clause-room
node_below-requires-clause-room g c =
    let bound = g.M.ClientSeat.bound in
    let few = path_short c.args.path.now c.names.ensures.path in
    let same = ap (λ (xs : _). length xs) c.names.ensures.names in
    let room = c.requires.room in omega (arith, few, same, room)

pub invariant_of-self : goal.invariant_of-self
invariant_of-self g c =
    let carried = rw c.heap_mut.ensures.heap at c.node_below.ensures.carries in
    let kept = rw c.heap_mut.ensures.heap at c.node_below.ensures.minor in
    let bound = g.M.ClientSeat.bound in
    let was = c.args.self.now in
    let did = c.node_below.ensures in
    let same = ap (λ (x : _). length x.records) kept in
    let ready = was.sound.ready in
    let room = carried.follows.minor_room in
    let fits = was.copies in
    record {
      sound = sound_on _ (bound was.m.now) (bound c.node_below.new.m) was.nursery.now.heap
          c.node_below.new.minor carried was.draft was.base was.sound was.sound.kept
          (omega (arith, same, ready));
      whole =
          let room = carried.follows.minor_room in
          let same = was.whole in omega (arith, room, same);
      copies = omega (arith, room, fits);
    }

pub returns-clause-rests : goal.returns-clause-rests
returns-clause-rests g c =
    let carried = rw c.heap_mut.ensures.heap at c.node_below.ensures.carries in
    let kept = rw c.heap_mut.ensures.heap at c.node_below.ensures.minor in
    let bound = g.M.ClientSeat.bound in
    let was = c.args.self.now in
    let did = c.node_below.ensures in
    let few = path_short c.args.path.now c.names.ensures.path in
    let same = ap (λ (xs : _). length xs) c.names.ensures.names in
    let held = did.held in
    rests_on _ (bound was.m.now) (bound c.node_below.new.m) was.nursery.now.heap
    c.node_below.new.minor carried was.draft was.base was.sound was.sound.kept 8
    (ap commit_numbers did.pass) did.claims (ap (λ (x : _). length x.records) kept)
    (omega (arith, few, same, held))

pub returns-clause-still : goal.returns-clause-still
returns-clause-still g c =
    let carried = rw c.heap_mut.ensures.heap at c.node_below.ensures.carries in
    let bound = g.M.ClientSeat.bound in
    let was = c.args.self.now in
    still_on (bound was.m.now) (bound c.node_below.new.m) was.nursery.now.heap
    c.node_below.new.minor carried

pub returns-clause-lent : goal.returns-clause-lent
returns-clause-lent g c =
    let carried = rw c.heap_mut.ensures.heap at c.node_below.ensures.carries in
    let bound = g.M.ClientSeat.bound in
    let did = c.node_below.ensures in
    lent_stays (bound c.args.self.now.m.now) (bound c.node_below.new.m) carried.follows.same refl
    carried.follows.minor_room refl
