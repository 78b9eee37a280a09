use Rattle.std.proofs.Common.{arith, sym, ◌≡◌, ◌∙◌, ap, subst}
use Rattle.std.specs.Mem.Slots.{slots_items}
use Rattle.heap_rule.specs.Laws.{Ended}
use Rattle.heap_rule.specs.Shape.{Shape}
use Rattle.heap_rule.specs.declared.view.View.{View}
use Rattle.heap_rule.proofs.Showing.{shows_end}
use Rattle.heap_table.specs.Seats.{HeapId, SeatView}
use Rattle.heap_table.proofs.Shown.{image_of}
use Rattle.heap_table.proofs.heap.CellHeap.close.Goals as goal

pub invariant_of-result : goal.invariant_of-result
invariant_of-result g c =
    let heap = c.self.invariant in
    let last = c.close_with-closed.ensures.values.2 in (
      c.close_with-closed.ensures.values.0,
      c.close_with-closed.ensures.counts.1 ∙ heap.slots,
      image_of g.P.Keeping.opening g.P.Keeping.holds g.P.Keeping.fixed
          c.self.inside.table.shared.key last.0 _ c.self.inside.cells c.self.inside.mutators
          last.1.0 last.2 heap.cells_are heap.mutators_are,
    )

pub returns-clause-ended : goal.returns-clause-ended
returns-clause-ended g c =
    let last = c.close_with-closed.ensures.values.2 in
    let me : c.seat.inside.seat.me.0 ≡ c.args.seat.me = ap (λ (s : SeatView _). s.me)
    c.seat.view_is in
    let shape : c.self.inside.table.shared.key ≡ c.args.self.shape = ap (λ (h : HeapId). h.shape)
    c.self.view_is in
    let ended : Ended g.P.Keeping.opening g.P.Keeping.holds g.P.Keeping.fixed
    c.self.inside.table.shared.key (Unit {0}) (slots_items c.close_with-closed.result.words) c.seat.inside.seat.me.0 =
    shows_end g.P.Keeping.opening g.P.Keeping.holds g.P.Keeping.fixed
    c.self.inside.table.shared.key last.0 c.seat.inside.seat.id c.seat.inside.seat.me.0
    last.1.0 last.1.1 (ap (λ (v : View _). v.role) me ∙ c.requires.role)
    (slots_items c.close_with-closed.result.words) last.2 in
    subst (λ (h : Shape). Ended g.P.Keeping.opening g.P.Keeping.holds g.P.Keeping.fixed h
    (Unit {0}) (slots_items c.close_with-closed.result.words) c.args.seat.me) shape
    (subst (λ (v : View _). Ended g.P.Keeping.opening g.P.Keeping.holds g.P.Keeping.fixed
    c.self.inside.table.shared.key (Unit {0}) (slots_items c.close_with-closed.result.words) v) me ended)

pub returns-clause-shown : goal.returns-clause-shown
returns-clause-shown g c ended =
    let shown = ended.shows in
    let heap = c.self.invariant in
    let shape : c.self.inside.table.shared.key ≡ c.args.self.shape = ap (λ (h : HeapId). h.shape)
    c.self.view_is in
    let few = shown.few in
    let is = shown.last_of.cells in
    record {
      in_range = record { shape = shown.shaped; few_cells = omega (arith, few, is) };
      has_words = shown.has_words;
      words_are = sym ended.words_are ∙ shown.last_of.shown;
      cells_are = shown.last_of.cells ∙ sym (ap (λ (h : Shape). h.cells) shape) ∙ heap.cells_are;
      mutators_are =
          shown.last_of.mutators ∙ sym (ap (λ (h : Shape). h.mutators) shape) ∙ heap.mutators_are;
    }
