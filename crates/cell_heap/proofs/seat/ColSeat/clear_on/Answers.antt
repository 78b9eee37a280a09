use Rattle.std.proofs.Common.{◌≤◌, ℕ, sym, ◌∙◌, ap, subst}
use Rattle.cell_heap.specs.declared.progress.Progress.{Progress}
use Rattle.cell_heap.specs.Progress.{progress_of}
use Rattle.cell_heap.specs.Runs.{ClearsOn, clear_over}
use Rattle.heap_rule.specs.Shape.{Shape}
use Rattle.heap_table.specs.Seats.{IsSeatOf, SeatView}
use Rattle.cell_heap.proofs.InARow.{collectors, numbered, tells_shape}
use Rattle.cell_heap.proofs.seat.ColSeat.clear_on.Goals as goal

pub clear_from-requires : goal.clear_from-requires
clear_from-requires g c =
    let is = c.self.invariant in
    record {
      seat = subst (λ (s : SeatView _). IsSeatOf c.args.heap.now s) (sym c.self.view_is)
          c.requires.seat;
      collector = collectors is;
      cells = sym is.cells_are;
      mutators = sym is.mutators_are;
      first = sym (ap (λ (p : Progress). p.cursor) is.progress_is);
      stage = ap (λ (s : SeatView _). s.me.control.stage) c.self.view_is ∙ c.requires.stage;
      within = subst (λ (x : ℕ × ℕ). x.0 ≤ x.1)
          (λ j. (
            (sym (ap (λ (s : SeatView _). s.me.part.cursor) c.self.view_is)
                ∙ ap (λ (p : Progress). p.cursor) is.progress_is) j,
            (sym (ap (λ (s : SeatView _). s.me.shape.cells) c.self.view_is) ∙ is.cells_are) j,
          )) c.requires.within;
    }

pub invariant_of-self : goal.invariant_of-self
invariant_of-self g c =
    let is = c.self.invariant in
    let cleared = c.clear_from.ensures.cleared in
    let shape = tells_shape c.self.inside.seat c.clear_from.new.seat (clear_over cleared.found)
    cleared.told in
    numbered c.clear_from.ensures.collector
    (ap (λ (h : Shape). h.cells) shape ∙ is.cells_are)
    (ap (λ (h : Shape). h.mutators) shape ∙ is.mutators_are)
    (cleared.control ∙ is.control_is)
    (ap progress_of cleared.part
    ∙ (λ j. record (is.progress_is j) { cursor = is.cells_are j }))

pub returns : goal.returns
returns g c = record {
  cleared = subst (λ (s : SeatView _). ClearsOn s c.clear_from.new.seat) c.self.view_is
      c.clear_from.ensures.cleared;
}
