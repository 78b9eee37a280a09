use Rattle.mutator_seat.specs.Claims.{HasMode, Seeking}
use Rattle.std.proofs.Common.{◌≤◌, ◌+◌}
use Rattle.mutator_seat.specs.Pacing.{Paces}
use Rattle.mutator_seat.specs.Searches.{Tries, first_cells}
use Rattle.mutator_seat.specs.Stretches.{Calm}
use Rattle.trails.specs.Claims.{AllUsed}
use Rattle.mutator_seat.proofs.mutator.Mutator.try_all.Given as goal

abbrev pub invariant-loop-cell : goal.invariant-loop-cell
invariant-loop-cell g l =
    Calm (AllUsed 0 l.cell) l.fn.self l.self
    × HasMode l.self
    × Calm Seeking l.fn.self l.self
    × (l.tries ≤ 63)
    × Paces 1 (l.tries + 1) l.fn.self l.self
    × Tries (first_cells l.cell) l.fn.self l.self
