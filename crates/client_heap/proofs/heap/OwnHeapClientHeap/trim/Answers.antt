use Rattle.std.proofs.Common.{[], arith, refl}
use Rattle.client_heap.proofs.Calls.{holds_rests, holds_sound, trim_claims, trim_commits}
use Rattle.client_heap.proofs.Lending.{lent_stays}
use Rattle.client_heap.proofs.heap.OwnHeapClientHeap.trim.Goals as goal

pub invariant_of-self : goal.invariant_of-self
invariant_of-self g c =
    let ordered = rw c.heap.ensures.heap at c.len-records.ensures.ordered in
    let bound = g.M.ClientSeat.bound in
    let was = c.args.self.now in
    let did = c.trim.ensures in
    record {
      sound = holds_sound (bound was.m.now) (bound c.trim.new.self) was.nursery.now.heap [] did.held
          ordered did.lasts did.same was.draft was.base was.sound;
      whole = was.whole;
      copies = was.copies;
    }

pub returns-clause-rests : goal.returns-clause-rests
returns-clause-rests g c =
    let ordered = rw c.heap.ensures.heap at c.len-records.ensures.ordered in
    let bound = g.M.ClientSeat.bound in
    let was = c.args.self.now in
    let did = c.trim.ensures in
    holds_rests (bound was.m.now) (bound c.trim.new.self) was.nursery.now.heap [] did.held ordered
    did.lasts did.same was.draft was.base was.sound 0 (omega arith)
    (trim_commits (bound was.m.now) (bound c.trim.new.self) c.args.v c.args.keep did.trims
    did.nothing)
    (trim_claims (bound was.m.now) (bound c.trim.new.self) c.args.v c.args.keep did.trims
    did.nothing)

pub returns-clause-lent : goal.returns-clause-lent
returns-clause-lent g c =
    let bound = g.M.ClientSeat.bound in
    let did = c.trim.ensures in
    lent_stays (bound c.args.self.now.m.now) (bound c.trim.new.self) did.same refl refl refl
