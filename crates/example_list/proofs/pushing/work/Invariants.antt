use Rattle.std.proofs.Common.{◌≡◌, ◌≤◌}
use Rattle.cell_making.specs.Resting.{Rests}
use Rattle.example_list.proofs.pushing.work.Given as goal

abbrev pub invariant-loop-tried : goal.invariant-loop-tried
invariant-loop-tried g l =
    Rests 8 l.m × (l.m.heap ≡ l.heap) × (l.m.seat.me.number ≡ l.number) × (l.count ≤ l._tried)
