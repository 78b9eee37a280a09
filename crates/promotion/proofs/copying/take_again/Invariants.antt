use Rattle.std.proofs.Common.{◌≡◌, ◌≤◌, length}
use Rattle.free_cells.specs.Hints.{counts_of, queue_of}
use Rattle.promotion.specs.Hinting.{KeepHints}
use Rattle.promotion.proofs.copying.take_again.Given as goal

abbrev pub invariant-loop-number : goal.invariant-loop-number
invariant-loop-number g l =
    (length l.taken ≡ length l.fn.taken)
    × (queue_of l.hints ≡ queue_of l.fn.hints)
    × ((counts_of l.fn.hints).takes ≤ (counts_of l.hints).takes)
    × KeepHints l.fn.taken l.taken
