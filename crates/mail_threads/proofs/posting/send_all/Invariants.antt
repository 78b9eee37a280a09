use Rattle.std.proofs.Common.{◌≡◌, take}
use Rattle.std.specs.Vec.{vec_capacity, vec_len}
use Rattle.free_cells.specs.Hints.{queue_of}
use Rattle.mail_threads.specs.Calls.{Posted}
use Rattle.mail_threads.proofs.posting.send_all.Given as goal

-- the first lines are sent
abbrev pub invariant-loop-index : goal.invariant-loop-index
invariant-loop-index g l = record {
  posted : Posted (take l.index l.script) l.sent.items l.fn.m l.m;
  len : vec_len l.sent ≡ l.index;
  room : vec_capacity l.sent ≡ vec_capacity l.fn.sent;
  queue : queue_of l.hints ≡ queue_of l.fn.hints;
}
