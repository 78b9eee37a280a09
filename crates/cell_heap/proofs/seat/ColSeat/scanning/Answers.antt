use Rattle.std.proofs.Common.{◌∙◌, ap}
use Rattle.heap_table.specs.Seats.{SeatView}
use Rattle.cell_heap.proofs.AtHand.{no_scan}
use Rattle.cell_heap.proofs.seat.ColSeat.scanning.Goals as goal

pub returns-clause-none : goal.returns-clause-none
returns-clause-none g c = λ idle.
    no_scan c.self.invariant
    (ap (λ (s : SeatView _). s.me.control.stage) c.self.view_is ∙ idle)
