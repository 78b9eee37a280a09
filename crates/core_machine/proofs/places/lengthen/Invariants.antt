use Rattle.std.proofs.Common.{◌≡◌, ◌≤◌, ◌-◌, length, take, vec_capacity}
use Rattle.core_machine.proofs.places.lengthen.Given as goal

abbrev pub invariant-loop-held : goal.invariant-loop-held
invariant-loop-held l =
    (take (length l.initial.held.items) l.held.items ≡ l.initial.held.items)
    × (vec_capacity l.initial.held ≤ vec_capacity l.held)

abbrev pub decreases-loop-held : goal.decreases-loop-held
decreases-loop-held l = l.len - length l.held.items
