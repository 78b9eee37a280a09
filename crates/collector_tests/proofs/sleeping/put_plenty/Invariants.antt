use Rattle.std.proofs.Common.{◌≡◌}
use Rattle.free_cells.specs.Hints.{cells_of, queue_of}
use Rattle.collector_tests.proofs.sleeping.put_plenty.Given as goal

abbrev pub invariant-loop-cell : goal.invariant-loop-cell
invariant-loop-cell g l = cells_of (queue_of l.hints) ≡ 64
