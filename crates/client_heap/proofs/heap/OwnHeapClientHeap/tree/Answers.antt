use Rattle.std.proofs.Common.{[], ◌∷◌, ap, arith, refl}
use Rattle.client_heap.proofs.Calls.{holds_rests, holds_sound, holds_still}
use Rattle.version_rule.specs.Pass.{commit_numbers}
use Rattle.client_heap.proofs.Lending.{lent_stays}
use Rattle.client_heap.proofs.heap.OwnHeapClientHeap.tree.Goals as goal

pub invariant_of-self : goal.invariant_of-self
invariant_of-self g c =
    let ordered = rw c.heap.ensures.heap at c.len-records.ensures.ordered in
    let bound = g.M.ClientSeat.bound in
    let was = c.args.self.now in
    let did = c.tree.ensures in
    record {
      sound = holds_sound (bound was.m.now) (bound c.tree.new.self) was.nursery.now.heap
          (did.root.cell ∷ []) did.root.holds ordered did.lasts did.same was.draft was.base
          was.sound;
      whole = was.whole;
      copies = was.copies;
    }

pub returns-clause-rests : goal.returns-clause-rests
returns-clause-rests g c =
    let ordered = rw c.heap.ensures.heap at c.len-records.ensures.ordered in
    let bound = g.M.ClientSeat.bound in
    let was = c.args.self.now in
    let did = c.tree.ensures in
    holds_rests (bound was.m.now) (bound c.tree.new.self) was.nursery.now.heap (did.root.cell ∷ [])
    did.root.holds ordered did.lasts did.same was.draft was.base was.sound 1 (omega arith)
    (ap commit_numbers did.root.pass) did.root.claims

pub returns-clause-still : goal.returns-clause-still
returns-clause-still g c =
    let ordered = rw c.heap.ensures.heap at c.len-records.ensures.ordered in
    let bound = g.M.ClientSeat.bound in
    let was = c.args.self.now in
    let did = c.tree.ensures in
    holds_still (bound was.m.now) (bound c.tree.new.self) was.nursery.now.heap (did.root.cell ∷ [])
    did.root.holds ordered did.lasts did.same

pub returns-clause-lent : goal.returns-clause-lent
returns-clause-lent g c =
    let bound = g.M.ClientSeat.bound in
    let did = c.tree.ensures in
    lent_stays (bound c.args.self.now.m.now) (bound c.tree.new.self) did.same refl refl refl
