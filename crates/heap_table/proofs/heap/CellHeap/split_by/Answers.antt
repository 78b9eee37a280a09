use Rattle.std.proofs.Common.{◌≡◌, ◌<◌, ◌∙◌, ap, subst, sym, arith}
use lib.ListN.{get_elem?}
use Rattle.heap_rule.specs.declared.view.View.{View}
use Rattle.heap_rule.specs.Shape.{Shape}
use Rattle.heap_rule.proofs.Moving.{splits}
use Rattle.heap_rule.specs.Moves.{given_view}
use Rattle.heap_table.specs.Seats.{HeapId, SeatView}
use Rattle.heap_table.proofs.Seats.{same_seat}
use Rattle.heap_table.proofs.heap.CellHeap.split_by.Goals as goal

pub split_seat-requires : goal.split_seat-requires
split_seat-requires g c =
    let shared = c.self.inside.table.shared in
    let raw = c.seat.inside.seat in
    let me : raw.me.0 ≡ c.args.seat.now.me = ap (λ (s : SeatView _). s.me) c.seat.view_is in
    let at : raw.table_id ≡ shared.table_id = ap (λ (s : SeatView _). s.table) c.seat.view_is
    ∙ c.requires.seat.0 ∙ ap (λ (h : HeapId). h.table) (sym c.self.view_is) in
    let shape : c.args.self.now.shape ≡ raw.me.0.shape = sym c.requires.seat.1
    ∙ ap (λ (v : View _). v.shape) (sym me) in
    let some_words = c.self.invariant.words in (
      at,
      omega (arith, some_words),
      splits g.P.Keeping.opening g.P.Keeping.holds g.P.Keeping.fixed shared.key
          g.D.Departure.number g.D.Departure.room raw.id raw.me.0
          (ap (λ (v : View _). v.role) me ∙ c.requires.role)
          (subst (λ (h : Shape). g.D.Departure.number < h.mutators) shape c.requires.number)
          (ap (λ (v : View _). get_elem? v.places g.D.Departure.number) me ∙ c.requires.unsplit),
    )

pub returns-clause-given : goal.returns-clause-given
returns-clause-given g c =
    let told = c.split_seat.ensures in
    same_seat _ _ (told.3 ∙ ap (λ (s : SeatView _). s.table) c.seat.view_is)
    (ap (λ m. m.0) told.4
    ∙ ap (λ (s : SeatView _). given_view g.P.Keeping.opening g.D.Departure.number
    g.D.Departure.room s.me) c.seat.view_is)
