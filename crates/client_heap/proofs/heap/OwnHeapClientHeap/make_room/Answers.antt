use Rattle.client_heap.proofs.Lending.{lent_stays}
use Rattle.client_heap.proofs.heap.OwnHeapClientHeap.make_room.Goals as goal

pub returns-clause-lent : goal.returns-clause-lent
returns-clause-lent g c =
    let bound = g.M.ClientSeat.bound in
    let did = c.make_room.ensures in
    lent_stays (bound c.args.self.now.m.now) (bound c.make_room.new.self) did.follows.same did.queue
    did.follows.minor_room did.promoter
