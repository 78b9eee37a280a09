use Rattle.std.proofs.Common.{map, take}
use Rattle.std.specs.Prelude.{slice_index_or}
use Rattle.heap_rule.specs.Lore.{known_at}
use Rattle.mutator_seat.specs.Bound.{IsBound, bound, held_cells}
use Rattle.promotion.specs.Copying.{Appended}
use Rattle.record_copying.proofs.settling.hold_copies.Given as goal

abbrev pub invariant-loop-r : goal.invariant-loop-r
invariant-loop-r g l =
    IsBound l.fn.heap l.seat
    × Appended (bound l.fn.heap l.fn.seat)
    (map (λ r. slice_index_or (held_cells (bound l.fn.heap l.fn.seat))
    (slice_index_or l.places r.number 0) 0) (take l.r-index l.roots))
    (map (λ r. known_at l.fn.seat.me.known (slice_index_or l.places r.number 0))
    (take l.r-index l.roots)) (bound l.fn.heap l.seat)
