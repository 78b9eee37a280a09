use Rattle.std.proofs.Common.{◌≡◌, Ok, length}
use Rattle.std.specs.Vec.{vec_capacity, vec_len}
use Rattle.beside_collector.specs.Places.{AllFrom}
use Rattle.beside_collector.specs.Splitting.{HasSplit}
use Rattle.free_cells.specs.Passes.{IsHintPass}
use Rattle.heap_table.specs.Seats.{IsSeatOf}
use Rattle.mutator_threads.specs.Mutators.{IsWorker}
use Rattle.mutator_threads.proofs.opening.split_workers.Given as goal

abbrev pub invariant-loop-number : goal.invariant-loop-number
invariant-loop-number g l = record {
  workers : AllFrom (IsWorker g.P.Keeping.opening l.heap l.queue l.room
      (λ number one. goal.F-post g l.own number (Ok one))) 0 l.workers.items;
  many : length l.workers.items ≡ l.number;
  len : vec_len l.workers ≡ l.number;
  room : vec_capacity l.workers ≡ l.mutators;
  seat : IsSeatOf l.heap l.seat;
  split : HasSplit l.number l.mutators l.fn.seat l.seat;
  pass : IsHintPass l.queue l.pass;
}
