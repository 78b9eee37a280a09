-- What a clause says of the queue of hints in the hands of one thread.
-- Source: this project's.
use Rattle.std.specs.Prelude.{ℕ}
use Rattle.crossbeam_queue.specs.Passes.{view}
use Rattle.free_cells.specs.declared.counts.Counts.{Counts}
use Rattle.free_cells.specs.declared.queue.FreeQueue.{FreeQueue}
use Rattle.free_cells.specs.declared.hints.Hints.{Hints}

-- for how many cells the queue is
abbrev pub cells_of : FreeQueue → ℕ
cells_of queue = queue.cells

abbrev pub queue_of : Hints → FreeQueue
queue_of hints = hints.queue.now

-- what the thread's pass knows and has done
abbrev pub counts_of : Hints → Counts
counts_of hints = view hints.pass
