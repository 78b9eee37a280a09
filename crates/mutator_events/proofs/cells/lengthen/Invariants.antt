use Rattle.std.proofs.Common.{◌≡◌, ◌≤◌, ◌-◌, length, take, vec_capacity}
use Rattle.mutator_events.proofs.cells.lengthen.Given as goal

abbrev pub invariant-loop-cells : goal.invariant-loop-cells
invariant-loop-cells l =
    (take (length l.initial.cells.items) l.cells.items ≡ l.initial.cells.items)
    × (vec_capacity l.initial.cells ≤ vec_capacity l.cells)

abbrev pub decreases-loop-cells : goal.decreases-loop-cells
decreases-loop-cells l = l.len - length l.cells.items
