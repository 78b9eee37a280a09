use Rattle.std.proofs.Common.{ap}
use Rattle.heap_table.specs.Seats.{SeatView}
use Rattle.mutator_seat.specs.Bound.{bound}
use Rattle.mutator_seat.proofs.Handshakes.{answered_behind}
use Rattle.mutator_seat.proofs.looking.answer_asked.Goals as goal

pub returns-clause-calm : goal.returns-clause-calm
returns-clause-calm g c =
    let heap = c.args.heap.now in
    answered_behind (bound heap c.args.seat.now) (bound heap c.mark_before_third.new.seat)
    (bound heap c.answer.new.self) c.mark_before_third.ensures.seat.settled
    c.mark_before_third.ensures.calm
    (ap (λ (s : SeatView _). bound heap s) c.answer.ensures.told)
