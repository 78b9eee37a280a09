use Rattle.std.proofs.Common.{◌≤◌, ℕ, ◌++◌, false, Some, None, sym, ◌∙◌, ap, subst}
use Rattle.std.specs.List.{list_all}
use Rattle.cell_heap.specs.declared.progress.Progress.{Progress}
use Rattle.cell_heap.specs.Progress.{progress_of}
use Rattle.cell_heap.specs.Runs.{SeesOn, finds_gray, see_over}
use Rattle.core_machine.specs.Collector.{scanning_from}
use Rattle.heap_rule.specs.Shape.{Shape}
use Rattle.heap_table.specs.Seats.{IsSeatOf, SeatView}
use Rattle.cell_heap.proofs.InARow.{collectors, numbered, tells_shape}
use Rattle.cell_heap.proofs.seat.ColSeat.see_on.Goals as goal

pub see_from-requires : goal.see_from-requires
see_from-requires g c =
    let is = c.self.invariant in
    record {
      seat = subst (λ (s : SeatView _). IsSeatOf c.args.heap.now s) (sym c.self.view_is)
          c.requires.seat;
      collector = collectors is;
      cells = sym is.cells_are;
      mutators = sym is.mutators_are;
      first = sym (ap (λ (p : Progress). p.cursor) is.progress_is);
      stage = ap (λ (s : SeatView _). s.me.control.stage) c.self.view_is ∙ c.requires.stage;
      answered = ap (λ (s : SeatView _). list_all (λ answered. answered) s.me.part.answered)
          c.self.view_is ∙ c.requires.answered;
      scan = ap (λ (s : SeatView _). s.me.part.scan) c.self.view_is ∙ c.requires.scan;
      within = subst (λ (x : ℕ × ℕ). x.0 ≤ x.1)
          (λ j. (
            (sym (ap (λ (s : SeatView _). s.me.part.cursor) c.self.view_is)
                ∙ ap (λ (p : Progress). p.cursor) is.progress_is) j,
            (sym (ap (λ (s : SeatView _). s.me.shape.cells) c.self.view_is) ∙ is.cells_are) j,
          )) c.requires.within;
    }

pub invariant_of-self : goal.invariant_of-self
invariant_of-self g c =
    let is = c.self.invariant in
    let seen = c.in-Some.ensures.seen in
    let shape = tells_shape c.self.inside.seat c.see_from.new.seat
    (see_over c.self.inside.seat.me.part.cursor seen.found ++ finds_gray (Some c.in-Some.cell))
    seen.told in
    numbered c.in-Some.ensures.collector
    (ap (λ (h : Shape). h.cells) shape ∙ is.cells_are)
    (ap (λ (h : Shape). h.mutators) shape ∙ is.mutators_are)
    (seen.control ∙ is.control_is)
    (ap progress_of seen.part
    ∙ ap (λ (p : Progress). record p {
      cursor = c.in-Some.cell;
      clean = false;
      scan = Some (scanning_from c.in-Some.cell);
    }) is.progress_is)

pub invariant_of-self-in-None : goal.invariant_of-self-in-None
invariant_of-self-in-None g c =
    let is = c.self.invariant in
    let seen = c.in-None.ensures.seen in
    let shape = tells_shape c.self.inside.seat c.see_from.new.seat
    (see_over c.self.inside.seat.me.part.cursor seen.found ++ finds_gray None) seen.told in
    numbered c.in-None.ensures.collector
    (ap (λ (h : Shape). h.cells) shape ∙ is.cells_are)
    (ap (λ (h : Shape). h.mutators) shape ∙ is.mutators_are)
    (seen.control ∙ is.control_is)
    (ap progress_of seen.part
    ∙ (λ j. record (is.progress_is j) { cursor = is.cells_are j }))

pub returns-in-Some : goal.returns-in-Some
returns-in-Some g c = record {
  seen = subst (λ (s : SeatView _). SeesOn (Some c.in-Some.cell) s c.see_from.new.seat)
      c.self.view_is c.in-Some.ensures.seen;
}

pub returns-in-None : goal.returns-in-None
returns-in-None g c = record {
  seen = subst (λ (s : SeatView _). SeesOn None s c.see_from.new.seat) c.self.view_is
      c.in-None.ensures.seen;
}
