use Rattle.std.proofs.Common.{◌≤◌, ℕ, ◌++◌, Some, None, sym, ◌∙◌, ap, subst}
use Rattle.cell_heap.specs.declared.progress.Progress.{Progress}
use Rattle.cell_heap.specs.Progress.{progress_of}
use Rattle.cell_heap.specs.Runs.{SweepsOn, finds_white, sweep_over}
use Rattle.cell_words.specs.declared.controls.Control.{Control}
use Rattle.core_machine.specs.declared.progress.Sweeping.TheVariants as sweeping
use Rattle.heap_rule.specs.Shape.{Shape}
use Rattle.heap_table.specs.Seats.{IsSeatOf, SeatView}
use Rattle.cell_heap.proofs.InARow.{collectors, numbered, tells_shape}
use Rattle.cell_heap.proofs.seat.ColSeat.sweep_on.Goals as goal

pub sweep_from-white-requires : goal.sweep_from-white-requires
sweep_from-white-requires g c =
    let is = c.self.invariant in
    record {
      seat = subst (λ (s : SeatView _). IsSeatOf c.args.heap.now s) (sym c.self.view_is)
          c.requires.seat;
      collector = collectors is;
      cells = sym is.cells_are;
      mutators = sym is.mutators_are;
      control = sym is.control_is;
      stage = sym (ap (λ (x : Control). x.stage) is.control_is)
          ∙ ap (λ (s : SeatView _). s.me.control.stage) c.self.view_is ∙ c.requires.stage;
      fresh = ap (λ (s : SeatView _). s.me.part.sweep) c.self.view_is ∙ c.requires.fresh;
      within = subst (λ (x : ℕ × ℕ). x.0 ≤ x.1)
          (λ j. (
            (sym (ap (λ (s : SeatView _). s.me.control.position) c.self.view_is)
                ∙ ap (λ (x : Control). x.position) is.control_is) j,
            (sym (ap (λ (s : SeatView _). s.me.shape.cells) c.self.view_is) ∙ is.cells_are) j,
          )) c.requires.within;
    }

pub invariant_of-self : goal.invariant_of-self
invariant_of-self g c =
    let is = c.self.invariant in
    let swept = c.in-Some.ensures.swept in
    let shape = tells_shape c.self.inside.seat c.sweep_from-white.new.seat
    (sweep_over swept.kept ++ finds_white (Some c.in-Some.cell)) swept.told in
    numbered c.in-Some.ensures.collector
    (ap (λ (h : Shape). h.cells) shape ∙ is.cells_are)
    (ap (λ (h : Shape). h.mutators) shape ∙ is.mutators_are)
    (swept.control
    ∙ ap (λ (x : Control). record x { position = c.in-Some.cell }) is.control_is)
    (ap progress_of swept.part
    ∙ ap (λ (p : Progress). record p { sweep = sweeping.Wiping 0 }) is.progress_is)

pub invariant_of-self-in-None : goal.invariant_of-self-in-None
invariant_of-self-in-None g c =
    let is = c.self.invariant in
    let swept = c.in-None.ensures.swept in
    let fresh = ap (λ (s : SeatView _). s.me.part.sweep) c.self.view_is ∙ c.requires.fresh in
    let shape = tells_shape c.self.inside.seat c.sweep_from-white.new.seat
    (sweep_over swept.kept ++ finds_white None) swept.told in
    numbered c.in-None.ensures.collector
    (ap (λ (h : Shape). h.cells) shape ∙ is.cells_are)
    (ap (λ (h : Shape). h.mutators) shape ∙ is.mutators_are)
    (swept.control ∙ (λ j. record (is.control_is j) { position = is.cells_are j }))
    (ap progress_of swept.part
    ∙ (λ j. record (progress_of c.self.inside.seat.me.part) { sweep = sym fresh j })
    ∙ is.progress_is)

pub returns-in-Some : goal.returns-in-Some
returns-in-Some g c = record {
  swept = subst
      (λ (s : SeatView _). SweepsOn (Some c.in-Some.cell) s c.sweep_from-white.new.seat)
      c.self.view_is c.in-Some.ensures.swept;
}

pub returns-in-None : goal.returns-in-None
returns-in-None g c = record {
  swept = subst (λ (s : SeatView _). SweepsOn None s c.sweep_from-white.new.seat)
      c.self.view_is c.in-None.ensures.swept;
}
