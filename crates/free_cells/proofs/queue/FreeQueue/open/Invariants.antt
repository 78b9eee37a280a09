use Rattle.std.proofs.Common.{◌≡◌, ◌-◌}
use Rattle.crossbeam_queue.specs.Passes.{IsPassOf, view}
use Rattle.free_cells.specs.Counts.{filled}
use Rattle.free_cells.proofs.queue.FreeQueue.open.Given as goal

-- how many cells there are
abbrev pub ghosts-size : goal.ghosts-size
ghosts-size g a = record { cells = a.cells }

abbrev pub invariant-loop-cell : goal.invariant-loop-cell
invariant-loop-cell g l =
    IsPassOf l.ring l.pass × (view l.pass ≡ filled l.cells l.first (l.cell - l.first))
