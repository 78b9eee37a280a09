use Rattle.client_heap.proofs.Drafts.{draft_node}
use Rattle.client_heap.proofs.heap.OwnHeapClientHeap.draft.Goals as goal

pub returns-clause-node : goal.returns-clause-node
returns-clause-node g c =
    let bound = g.M.ClientSeat.bound in
    let was = c.args.self.now in
    draft_node (bound was.m.now) was.nursery.now.heap was.draft was.base was.sound
