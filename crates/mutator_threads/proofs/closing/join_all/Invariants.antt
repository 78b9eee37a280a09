use Rattle.std.proofs.Common.{◌≡◌, ◌≤◌, ◌+◌, length}
use Rattle.std.specs.Vec.{vec_capacity, vec_len}
use Rattle.std.specs.Vec.Iter.{into_iter_items, into_iter_len}
use Rattle.heap_table.specs.Seats.{IsSeatOf}
use Rattle.mutator_threads.proofs.Joined.{JoinedSoFar}
use Rattle.mutator_threads.proofs.closing.join_all.Given as goal

abbrev pub invariant-loop-worker : goal.invariant-loop-worker
invariant-loop-worker g l = record {
  left : into_iter_len l.worker-iterator ≡ length (into_iter_items l.worker-iterator);
  room : vec_len l.own + length (into_iter_items l.worker-iterator) ≤ vec_capacity l.own;
  seat : IsSeatOf l.heap l.seat;
  joined : JoinedSoFar l.heap l.fn.workers.items (into_iter_items l.worker-iterator)
      l.own.items l.fn.seat l.seat;
}
