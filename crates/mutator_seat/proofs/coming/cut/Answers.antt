use Rattle.std.proofs.Common.{arith}
use Rattle.mutator_seat.proofs.coming.cut.Goals as goal

pub keep-requires-clause-may : goal.keep-requires-clause-may
keep-requires-clause-may g c = record {
  inside = c.requires.inside;
  some = c.requires.some;
  kept = c.requires.kept;
  copied = omega arith;
  room = omega (arith, c.requires.kept, c.room-room.ensures.room);
}
