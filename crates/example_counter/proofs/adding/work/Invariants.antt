use Rattle.std.proofs.Common.{◌≡◌, ◌≤◌}
use Rattle.example_counter.specs.Adding.{Rests}
use Rattle.example_counter.proofs.adding.work.Given as goal

abbrev pub invariant-loop-tried : goal.invariant-loop-tried
invariant-loop-tried g l =
    Rests l.m × (l.m.heap ≡ l.heap) × (l.m.seat.me.number ≡ l.fn.seat.me.number)
    × (l.m.seat.me.pass ≡ record { sum = l.sum }) × (l.sum ≤ l._tried)
    × (l.nursery.minor.room ≡ 1) × (l.nursery.promoter ≡ 1)
