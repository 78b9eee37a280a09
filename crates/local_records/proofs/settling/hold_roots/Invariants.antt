use Rattle.std.proofs.Common.{take}
use Rattle.mutator_seat.specs.Bound.{IsBound, bound}
use Rattle.local_records.specs.Settling.{HoldsAgain, places_of}
use Rattle.local_records.proofs.settling.hold_roots.Given as goal

abbrev pub invariant-loop-i : goal.invariant-loop-i
invariant-loop-i g l =
    IsBound l.fn.heap l.seat
    × HoldsAgain (bound l.fn.heap l.fn.seat) (places_of l.table.places (take l.i l.stack.roots))
    (bound l.fn.heap l.seat)
