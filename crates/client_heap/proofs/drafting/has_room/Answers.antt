use Rattle.client_heap.proofs.Rooms.{cleared_places, cleared_records}
use Rattle.client_heap.proofs.drafting.has_room.Goals as goal

pub returns-then-records-room : goal.returns-then-records-room
returns-then-records-room c = record {
  room = cleared_records c.args.m.now c.args.minor.now c.len-records.result c.room.result
      c.len-records.ensures.count c.room.ensures.room c.spare.result c.spare.ensures.spare
      c.if-records-room.true;
}

pub returns-else-records-room : goal.returns-else-records-room
returns-else-records-room c = record {
  room = cleared_places c.args.m.now c.args.minor.now c.len-records.result c.room.result
      c.len-records.ensures.count c.room.ensures.room c.if-records-room.false;
}
