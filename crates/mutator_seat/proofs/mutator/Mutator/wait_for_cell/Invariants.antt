use Rattle.std.proofs.Common.{◌≡◌, ◌≤◌}
use Rattle.free_cells.specs.Hints.{counts_of, queue_of}
use Rattle.mutator_seat.specs.Claims.{Seeking}
use Rattle.mutator_seat.specs.Pacing.{Paces}
use Rattle.mutator_seat.specs.Stretches.{Calm}
use Rattle.mutator_seat.proofs.Searching.{Sought}
use Rattle.mutator_seat.proofs.mutator.Mutator.wait_for_cell.Given as goal

abbrev pub invariant-loop : goal.invariant-loop
invariant-loop g l =
    Calm Seeking l.fn.self l.self
    × (queue_of l.hints ≡ queue_of l.fn.hints)
    × ((counts_of l.fn.hints).takes ≤ (counts_of l.hints).takes)
    × Paces 65 65 l.fn.self l.self
    × Sought l.fn.first l.patience l.fn.hints l.hints l.fn.self l.self
