-- What a clause says of a queue of hints and its passes.
-- Source: this project's.
use Rattle.std.specs.Prelude.{ℕ, ◌≡◌}
use Rattle.crossbeam_queue.specs.Passes.{Pass, view, IsPassOf}
use Rattle.free_cells.specs.declared.counts.Counts.{Counts}
use Rattle.free_cells.specs.declared.queue.FreeQueue.{FreeQueue}

-- the pass is of this queue
pub record IsHintPass (queue : FreeQueue) (pass : Pass ℕ Counts) : Type 0 where
  pub ring : IsPassOf queue.ring pass
  pub cells : (view pass).cells ≡ queue.cells
