use Rattle.std.proofs.Common.{◌≡◌, ◌+◌, length, take}
use Rattle.free_cells.specs.Hints.{cells_of, counts_of, queue_of}
use Rattle.promotion.specs.Copying.{marked_count}
use Rattle.mutator_seat.specs.Takes.{GiveAll, after_takes}
use Rattle.promotion.proofs.Hinting.{hints_below}
use Rattle.promotion.proofs.copying.take_hints.Given as goal

abbrev pub invariant-loop-number : goal.invariant-loop-number
invariant-loop-number g l =
    (length l.taken ≡ length l.fn.taken)
    × (queue_of l.hints ≡ queue_of l.fn.hints)
    × ((counts_of l.hints).takes
    ≡ (counts_of l.fn.hints).takes + marked_count (take l.number l.marks))
    × GiveAll (cells_of (queue_of l.fn.hints)) (counts_of l.fn.hints)
    (hints_below l.taken l.marks l.number)
    × (counts_of l.hints
    ≡ after_takes (counts_of l.fn.hints) (hints_below l.taken l.marks l.number))
