-- What a thread knows of its mutator between two calls.
-- Source: this project's.
use Rattle.std.specs.Prelude.{ℕ, ◌≡◌, ◌≤◌, ◌+◌, length}
use Rattle.free_cells.specs.declared.queue.FreeQueue.{FreeQueue}
use Rattle.heap_table.specs.Seats.{HeapId, SeatView}
use Rattle.mutator_seat.specs.Bound.{Bound}
use Rattle.mutator_threads.specs.Mutators.{IsOver, IsWorker}
use Rattle.mutator_threads.specs.declared.worker.Worker.{Worker}
use Rattle.cell_making.specs.Resting.{Loose}
use Rattle.example_log.specs.Logging.{KnowsEntry, MayAppend, nothing_appended}
use Rattle.example_log.specs.declared.log.Appended.{Appended}

-- It holds the anchor and the box with this number, and has room for eight places.
pub record HoldsEntry (number : ℕ) (m : Bound Appended) : Type 0 where
  pub loose : Loose 8 m
  pub two : length m.seat.me.own.held ≡ 2
  pub entry : KnowsEntry m.seat.me 1 number

pub record HoldsSome (m : Bound Appended) : Type 0 where
  pub number : ℕ
  pub holds : HoldsEntry number m

-- and a fresh box for the entry after it
pub record HoldsNext (number : ℕ) (m : Bound Appended) : Type 0 where
  pub loose : Loose 8 m
  pub may : MayAppend m.seat.me 1 2 number

-- it is the mutator of the same heap, and has appended so many more
pub record Appends (more : ℕ) (old new : Bound Appended) : Type 0 where
  pub heap : new.heap ≡ old.heap
  pub number : new.seat.me.number ≡ old.seat.me.number
  pub pass : new.seat.me.pass ≡ record { count = old.seat.me.pass.count + more }

-- it is over, and has appended so many
pub record IsDone (heap : HeapId) (number count : ℕ) (seat : SeatView Appended) : Type 0 where
  pub is_over : IsOver heap number seat
  pub pass_is : seat.me.pass ≡ record { count = count }
  pub few : count ≤ 4294967295

-- What a thread has of its own is how many it has appended.

-- it has appended none
abbrev pub IsIdle : ℕ → ℕ → Type 0
IsIdle number count = count ≡ 0

abbrev pub IsAppender : HeapId → FreeQueue → ℕ → Worker Appended ℕ → Type 0
IsAppender heap queue number worker =
    IsWorker nothing_appended heap queue 8 IsIdle number worker

-- it is over, and has appended what it counted
abbrev pub HasAppended : HeapId → ℕ → Worker Appended ℕ → Type 0
HasAppended heap number worker = IsDone heap number worker.own worker.seat
