use Rattle.std.proofs.Common.{map, take}
use Rattle.std.specs.Prelude.{slice_index_or}
use Rattle.heap_rule.specs.Lore.{known_at}
use Rattle.mutator_seat.specs.Bound.{held_cells}
use Rattle.promotion.specs.Copying.{Appended}
use Rattle.promotion.proofs.copying.hold_roots.Given as goal

abbrev pub invariant-loop-r : goal.invariant-loop-r
invariant-loop-r g l =
    Appended l.fn.m
    (map (λ r. slice_index_or (held_cells l.fn.m) (slice_index_or l.places r.number 0) 0)
    (take l.r-index l.roots))
    (map (λ r. known_at l.fn.m.seat.me.known (slice_index_or l.places r.number 0))
    (take l.r-index l.roots)) l.m
