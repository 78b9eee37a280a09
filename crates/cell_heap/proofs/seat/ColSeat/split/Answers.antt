use Rattle.std.proofs.Common.{◌∙◌, ap, sym, ℕ}
use Rattle.heap_rule.specs.Moves.{given_view}
use Rattle.heap_table.specs.Seats.{SeatView}
use Rattle.cell_heap.proofs.seat.ColSeat.split.Goals as goal

pub of-requires-clause-given : goal.of-requires-clause-given
of-requires-clause-given g c = (
  c.self.inside.seat.me,
  ap (λ (s : SeatView _). s.me) c.split_off-seat.ensures.given
      ∙ ap (λ (room : ℕ). given_view g.P.Keeping.opening c.args.number room c.self.inside.seat.me)
      (sym c.in_ok-held.ensures.room),
)
