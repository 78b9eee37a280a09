use Rattle.cell_making.specs.Makes.{Filled}
use Rattle.mutator_seat.specs.Bound.{IsBound, bound}
use Rattle.sorted_boxes.proofs.making.fill_fields.Given as goal

abbrev pub invariant-loop-i : goal.invariant-loop-i
invariant-loop-i l =
    Filled (bound l.fn.heap l.fn.seat) l.place l.fields l.i (bound l.fn.heap l.seat)
    × IsBound l.fn.heap l.seat
