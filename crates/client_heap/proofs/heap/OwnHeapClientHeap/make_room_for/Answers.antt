use Rattle.std.proofs.Common.{arith}
use Rattle.client_heap.proofs.Lending.{lent_stays}
use Rattle.client_heap.proofs.Pairs.{idle_state, idle_still}
use Rattle.client_heap.proofs.heap.OwnHeapClientHeap.make_room_for.Goals as goal

pub returns-clause-unmoved : goal.returns-clause-unmoved
returns-clause-unmoved g c = λ room spare.
    c.make_room_for.ensures.unmoved
    (record { room = omega (arith, room); spare = omega (arith, spare) })

pub returns-clause-idle : goal.returns-clause-idle
returns-clause-idle g c =
    let bound = g.M.ClientSeat.bound in
    let was = c.args.self.now in
    idle_state (bound was.m.now) (bound c.make_room_for.new.self) was.nursery.now
    c.make_room_for.new.nursery was.draft c.make_room_for.new.draft was.base
    c.make_room_for.new.base c.make_room_for.result c.make_room_for.ensures.idle

pub returns-clause-still : goal.returns-clause-still
returns-clause-still g c =
    let bound = g.M.ClientSeat.bound in
    let was = c.args.self.now in
    idle_still (bound was.m.now) (bound c.make_room_for.new.self) was.nursery.now
    c.make_room_for.new.nursery was.draft c.make_room_for.new.draft was.base
    c.make_room_for.new.base c.make_room_for.result c.make_room_for.ensures.idle

pub returns-clause-lent : goal.returns-clause-lent
returns-clause-lent g c =
    let bound = g.M.ClientSeat.bound in
    let did = c.make_room_for.ensures in
    lent_stays (bound c.args.self.now.m.now) (bound c.make_room_for.new.self) did.follows.same
    did.queue did.follows.minor_room did.promoter
