use Rattle.std.proofs.Common.{◌≡◌}
use Rattle.free_cells.specs.Hints.{queue_of}
use Rattle.heap_tests.proofs.missing.wait_and_put.Given as goal

abbrev pub invariant-loop-round : goal.invariant-loop-round
invariant-loop-round g l = queue_of l.hints ≡ queue_of l.initial.hints
