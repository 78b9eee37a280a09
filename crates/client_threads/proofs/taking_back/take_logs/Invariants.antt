use Rattle.std.proofs.Common.{◌≡◌, ◌≤◌, ◌+◌, length}
use Rattle.std.specs.Vec.{vec_capacity, vec_len}
use Rattle.std.specs.Vec.Iter.{into_iter_items, into_iter_len}
use Rattle.client_threads.proofs.TakingBack.{LogsSoFar}
use Rattle.client_threads.proofs.taking_back.take_logs.Given as goal

abbrev pub invariant-loop-client : goal.invariant-loop-client
invariant-loop-client l = record {
  left : into_iter_len l.client-iterator ≡ length (into_iter_items l.client-iterator);
  room : vec_len l.logs + length (into_iter_items l.client-iterator) ≤ vec_capacity l.logs;
  so : LogsSoFar l.fn.clients.items (into_iter_items l.client-iterator) l.logs.items l.failed;
}
