use Rattle.std.proofs.Common.{◌≡◌, ◌≤◌, None}
use Rattle.cell_making.specs.Resting.{Rests}
use Rattle.example_root.proofs.wasting.waste.Given as goal

abbrev pub invariant-loop-number : goal.invariant-loop-number
invariant-loop-number g l =
    Rests 8 l.m × (l.m.heap ≡ l.heap) × (l.m.seat.me.number ≡ 1)
    × (l.m.seat.me.pass.number ≡ None) × (l.made ≤ l.number)
