use Rattle.std.proofs.Common.{◌∙◌}
use Rattle.client_heap.proofs.Rooms.{cleared_shows}
use Rattle.client_heap.proofs.heap.OwnHeapClientHeap.has_room.Goals as goal

pub returns : goal.returns
returns g c =
    let bound = g.M.ClientSeat.bound in
    let was = c.args.self.now in
    let found = rw c.heap.ensures.heap at c.has_room.ensures.room in
    record {
      room = found ∙ cleared_shows (bound was.m.now) was.nursery.now.heap was.draft was.base;
    }
