-- What the two mutators have before they begin, and what they leave.
-- Source: this project's.
use Rattle.std.specs.Prelude.{ℕ, ◌≡◌, ◌<◌, [], ◌∷◌, IfSome, None, length}
use Rattle.beside_collector.specs.Places.{AllFrom}
use Rattle.free_cells.specs.declared.queue.FreeQueue.{FreeQueue}
use Rattle.heap_table.specs.Seats.{HeapId}
use Rattle.mutator_threads.specs.Mutators.{IsWorker as IsNewWorker}
use Rattle.mutator_threads.specs.declared.worker.Worker.{Worker}
use Rattle.example_root.specs.Holding.{IsDone}
use Rattle.example_root.specs.ReadBack.{ReadBack}
use Rattle.example_root.specs.Rule.{nothing_kept}
use Rattle.example_root.specs.declared.kept.Kept.{Kept}
use Rattle.example_root.specs.declared.working.Blocking.{Blocking}
use Rattle.example_root.specs.declared.working.Report.{Report}

-- a mutator has nothing of its own
abbrev pub anything_of : ℕ → Unit {0} → Type 0
anything_of number own = Unit {0}

abbrev pub IsWorker : HeapId → FreeQueue → ℕ → Worker Kept (Unit {0}) → Type 0
IsWorker heap queue number worker =
    IsNewWorker nothing_kept heap queue 8 anything_of number worker

-- both, and a number that is small enough
pub record AreWorkers (heap : HeapId) (queue : FreeQueue) (work : Blocking) : Type 0 where
  pub two : length work.workers.items ≡ 2
  pub workers : AllFrom (IsWorker heap queue) 0 work.workers.items
  pub small : work.number < 1000000

-- The seats are over. What was read after the call, if a number was kept before, is that number,
-- and the trail of the first shows that it was read.
pub record Reports (heap : HeapId) (number : ℕ) (report : Report) : Type 0 where
  pub first : Worker Kept (Unit {0})
  pub second : Worker Kept (Unit {0})
  pub both : report.workers.items ≡ first ∷ second ∷ []
  pub first_over : IsDone heap 0 report.left first.seat
  pub second_over : IsDone heap 1 None second.seat
  pub found : IfSome report.found
      (λ read. (read ≡ number) × ReadBack read first.seat.me.trail)
