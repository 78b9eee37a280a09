use Rattle.std.proofs.Common.{ap, refl}
use Rattle.client_heap.proofs.Lending.{lent_stays}
use Rattle.client_heap.proofs.heap.OwnHeapClientHeap.set_draft.Goals as goal
use Rattle.doc_records.specs.Trees.{tree_of}

pub returns-clause-lent : goal.returns-clause-lent
returns-clause-lent g c =
    let bound = g.M.ClientSeat.bound in
    let did = c.make_draft.ensures in
    lent_stays (bound c.args.self.now.m.now) (bound c.make_draft.new.self) did.follows.same refl
    refl refl

pub returns-clause-draft : goal.returns-clause-draft
returns-clause-draft g c =
    let term = rw c.heap.ensures.heap at c.make_draft.ensures.term in ap tree_of term
