use Rattle.std.proofs.Common.{◌∙◌, arith, refl, sym}
use Rattle.client_heap.proofs.Cuts.{cut_sound, gives_back, sound_there}
use Rattle.client_heap.proofs.Lending.{lent_stays}
use Rattle.client_heap.proofs.heap.OwnHeapClientHeap.settle.Goals as goal

pub cut_newer-requires : goal.cut_newer-requires
cut_newer-requires g c =
    let was = c.args.self.now in
    record {
      there = sound_there (g.M.ClientSeat.bound was.m.now) was.nursery.now.heap was.draft was.base
          was.sound;
    }

pub invariant_of-self : goal.invariant_of-self
invariant_of-self g c =
    let carried = rw c.heap.ensures.heap at c.cut_back.ensures.carries in
    let bound = g.M.ClientSeat.bound in
    let was = c.args.self.now in
    let did = c.cut_newer.ensures in
    record {
      sound = cut_sound (bound was.m.now) (bound c.cut_back.new.m) was.nursery.now.heap
          c.cut_newer.new.nursery.heap was.draft was.base was.sound carried did.node did.room
          did.fewer;
      whole = did.room ∙ was.whole ∙ sym did.records;
      copies = let same = did.room in let fits = was.copies in omega (arith, same, fits);
    }

pub returns-clause-gives_back : goal.returns-clause-gives_back
returns-clause-gives_back g c =
    let carried = rw c.heap.ensures.heap at c.cut_back.ensures.carries in
    let bound = g.M.ClientSeat.bound in
    let was = c.args.self.now in
    let did = c.cut_newer.ensures in
    let gave = c.cut_back.ensures in
    gives_back (bound was.m.now) (bound c.cut_back.new.m) was.nursery.now.heap
    c.cut_newer.new.nursery.heap was.draft was.base was.sound carried did.node did.room did.fewer
    gave.pass gave.claims gave.held

pub returns-clause-room : goal.returns-clause-room
returns-clause-room g c =
    let ready = c.args.self.now.sound.ready in
    let same = c.cut_back.ensures.carries.follows.room in
    let held = c.cut_back.ensures.held in
    let fewer = c.cut_newer.ensures.fewer in
    omega (arith, ready, same, held, fewer)

pub returns-clause-lent : goal.returns-clause-lent
returns-clause-lent g c =
    let bound = g.M.ClientSeat.bound in
    let did = c.cut_back.ensures in
    lent_stays (bound c.args.self.now.m.now) (bound c.cut_back.new.m) did.carries.follows.same
    refl c.cut_newer.ensures.room refl
