use Rattle.std.proofs.Common.{◌≡◌, length}
use Rattle.mutator_seat.specs.Bound.{IsBound, bound}
use Rattle.mutator_seat.specs.Stretches.{Calm, are_marks}
use Rattle.mutator_seat.proofs.Marks.{MarkedBelow}
use Rattle.mutator_seat.proofs.looking.mark_all.Given as goal

abbrev pub invariant-loop-place : goal.invariant-loop-place
invariant-loop-place g l =
    Calm are_marks (bound l.fn.heap l.fn.seat) (bound l.fn.heap l.seat)
    × (l.seat.me.own.mode ≡ l.fn.seat.me.own.mode)
    × (l.seat.me.presence ≡ l.fn.seat.me.presence)
    × (length l.seat.me.own.held ≡ length l.fn.seat.me.own.held)
    × MarkedBelow l.place l.seat.me.own.held
    × IsBound l.fn.heap l.seat
