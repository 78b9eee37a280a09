use Rattle.std.proofs.Common.{◌≡◌, ◌∙◌, ap, sym, arith}
use Rattle.heap_rule.specs.declared.view.View.{View}
use Rattle.heap_rule.proofs.Moving.{joins}
use Rattle.heap_rule.specs.Moves.{joined_view}
use Rattle.heap_table.specs.Seats.{HeapId, SeatView}
use Rattle.heap_table.proofs.Seats.{same_seat}
use Rattle.heap_table.proofs.heap.CellHeap.join_back.Goals as goal

pub join_seat-requires : goal.join_seat-requires
join_seat-requires g c =
    let shared = c.self.inside.table.shared in
    let raw = c.seat.inside.seat in
    let other = c.mutator.inside.seat in
    let heap : c.args.self.now.table ≡ shared.table_id = ap (λ (h : HeapId). h.table)
    (sym c.self.view_is) in
    let me : raw.me.0 ≡ c.args.seat.now.me = ap (λ (s : SeatView _). s.me) c.seat.view_is in
    let theirs : other.me.0 ≡ c.args.mutator.me = ap (λ (s : SeatView _). s.me)
    c.mutator.view_is in
    let some_words = c.self.invariant.words in (
      ap (λ (s : SeatView _). s.table) c.seat.view_is ∙ c.requires.seats.0.0 ∙ heap,
      ap (λ (s : SeatView _). s.table) c.mutator.view_is ∙ c.requires.seats.1.0 ∙ heap,
      c.mutator.invariant,
      omega (arith, some_words),
      joins g.P.Keeping.opening g.P.Keeping.holds g.P.Keeping.fixed shared.key raw.id raw.me.0
          other.id other.me.0 (ap (λ (v : View _). v.role) me ∙ c.requires.roles.0)
          (ap (λ (v : View _). v.role) theirs ∙ c.requires.roles.1)
          (ap (λ (v : View _). v.presence.over) theirs ∙ c.requires.over),
    )

pub returns : goal.returns
returns g c =
    let told = c.join_seat.ensures in
    record {
      both = same_seat _ _ (told.0 ∙ ap (λ (s : SeatView _). s.table) c.seat.view_is)
          (ap (λ m. m.0) told.2
          ∙ ap (λ (s : SeatView _). joined_view s.me c.mutator.inside.seat.me.0) c.seat.view_is
          ∙ ap (λ (s : SeatView _). joined_view c.args.seat.now.me s.me) c.mutator.view_is);
    }
