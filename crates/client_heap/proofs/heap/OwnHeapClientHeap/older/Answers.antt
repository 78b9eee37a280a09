use Rattle.std.proofs.Common.{[], ◌∷◌, ap, arith, refl}
use Rattle.client_heap.proofs.Calls.{holds_rests, holds_still, older_sound}
use Rattle.version_rule.specs.Pass.{commit_numbers}
use Rattle.client_heap.proofs.Lending.{lent_stays}
use Rattle.client_heap.proofs.heap.OwnHeapClientHeap.older.Goals as goal

pub invariant_of-self : goal.invariant_of-self
invariant_of-self g c =
    let ordered = rw c.heap.ensures.heap at c.len-records.ensures.ordered in
    let bound = g.M.ClientSeat.bound in
    let was = c.args.self.now in
    record {
      sound = older_sound (bound was.m.now) (bound c.older.new.self) was.nursery.now.heap
          c.args.v c.args.back ordered c.older.ensures.lasts c.older.ensures.same
          c.older.result c.older.ensures.older c.older.ensures.held was.draft was.base was.sound;
      whole = was.whole;
      copies = was.copies;
    }

pub returns-in-Ok-clause-rests : goal.returns-in-Ok-clause-rests
returns-in-Ok-clause-rests g c =
    let ordered = rw c.heap.ensures.heap at c.len-records.ensures.ordered in
    let bound = g.M.ClientSeat.bound in
    let was = c.args.self.now in
    let did = c.in-Ok.ensures.older in
    holds_rests (bound was.m.now) (bound c.older.new.self) was.nursery.now.heap (did.cell ∷ [])
    did.holds ordered c.older.ensures.lasts c.older.ensures.same was.draft was.base was.sound 1
    (omega arith) (ap commit_numbers did.pass) did.claims

pub returns-in-Ok-clause-still : goal.returns-in-Ok-clause-still
returns-in-Ok-clause-still g c =
    let ordered = rw c.heap.ensures.heap at c.len-records.ensures.ordered in
    let bound = g.M.ClientSeat.bound in
    let was = c.args.self.now in
    let did = c.in-Ok.ensures.older in
    holds_still (bound was.m.now) (bound c.older.new.self) was.nursery.now.heap (did.cell ∷ [])
    did.holds ordered c.older.ensures.lasts c.older.ensures.same

pub returns-in-Err-clause-rests : goal.returns-in-Err-clause-rests
returns-in-Err-clause-rests g c =
    let ordered = rw c.heap.ensures.heap at c.len-records.ensures.ordered in
    let bound = g.M.ClientSeat.bound in
    let was = c.args.self.now in
    holds_rests (bound was.m.now) (bound c.older.new.self) was.nursery.now.heap []
    c.in-Err.ensures.held ordered c.older.ensures.lasts c.older.ensures.same was.draft was.base
    was.sound 1 (omega arith) (ap commit_numbers c.in-Err.ensures.cut.pass) c.older.ensures.claims

pub returns-in-Err-clause-still : goal.returns-in-Err-clause-still
returns-in-Err-clause-still g c =
    let ordered = rw c.heap.ensures.heap at c.len-records.ensures.ordered in
    let bound = g.M.ClientSeat.bound in
    let was = c.args.self.now in
    holds_still (bound was.m.now) (bound c.older.new.self) was.nursery.now.heap []
    c.in-Err.ensures.held ordered c.older.ensures.lasts c.older.ensures.same

pub returns-in-Ok-clause-lent : goal.returns-in-Ok-clause-lent
returns-in-Ok-clause-lent g c =
    let bound = g.M.ClientSeat.bound in
    let did = c.older.ensures in
    lent_stays (bound c.args.self.now.m.now) (bound c.older.new.self) did.same refl refl refl

pub returns-in-Err-clause-lent : goal.returns-in-Err-clause-lent
returns-in-Err-clause-lent g c =
    let bound = g.M.ClientSeat.bound in
    let did = c.older.ensures in
    lent_stays (bound c.args.self.now.m.now) (bound c.older.new.self) did.same refl refl refl
