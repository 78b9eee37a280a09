use Rattle.std.proofs.Common.{◌≡◌, ◌≤◌, length, take}
use Rattle.free_cells.specs.Hints.{counts_of, queue_of}
use Rattle.minor_heap.specs.Terms.{terms_of}
use Rattle.promotion.specs.Copying.{AreCopied, GrownBy, marked_count}
use Rattle.promotion.specs.Hinting.{KeepHints}
use Rattle.promotion.specs.Linking.{AreCopying}
use Rattle.promotion.specs.Promoting.{Adds}
use Rattle.promotion.specs.Sharing.{known_terms}
use Rattle.promotion.proofs.Hinting.{CopiesBelow}
use Rattle.promotion.proofs.copying.copy_all.Given as goal

abbrev pub invariant-loop-number : goal.invariant-loop-number
invariant-loop-number g l =
    GrownBy (marked_count (take l.number l.marks)) l.fn.m l.m
    × (length l.places ≡ length l.fn.places)
    × AreCopied l.m.seat.me.known l.marks l.number l.places
    (terms_of (known_terms l.fn.m.seat.me.known) l.minor.records)
    × (queue_of l.hints ≡ queue_of l.fn.hints)
    × ((counts_of l.fn.hints).takes ≤ (counts_of l.hints).takes)
    × Adds (AreCopying (length l.fn.m.seat.me.own.held)) l.fn.m l.m
    × (length l.taken ≡ length l.fn.taken)
    × KeepHints l.fn.taken l.taken
    × CopiesBelow l.fn.taken l.marks l.number l.fn.m l.m
