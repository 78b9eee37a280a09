-- The ranges of the collector's numbers stand after every event of it, whatever it is: every state
-- of a run has them.
use Rattle.std.proofs.Common.{◌≡◌, ◌<◌, ◌≤◌, ◌+◌, ◌*◌, ◌^◌, ℕ, Bool, None, length, sym}
use Rattle.std.proofs.Common.{◌∙◌, ap, subst, arith}
use Rattle.std.proofs.Math.Nat.{mul-le-mul_left}
use Rattle.cell_heap.specs.Collecting.{IsWithin}
use Rattle.cell_heap.specs.Progress.{progress_of}
use Rattle.cell_words.specs.Control.{greatest_position_of}
use Rattle.cell_words.specs.declared.controls.Stage.{Stage}
use Rattle.cell_words.specs.declared.controls.Stage.TheVariants as stage
use Rattle.core_machine.specs.declared.events.Event.{Event}
use Rattle.core_machine.specs.declared.progress.Sweeping.{Sweeping}
use Rattle.core_machine.specs.declared.progress.Sweeping.TheVariants as sweeping
use Rattle.core_machine.specs.InRange.{InRange, IsShaped, swept_count}
use Rattle.core_machine.specs.Next.{after, found_by, maker}
use Rattle.core_machine.specs.State.{State, greatest_cells, greatest_cycles}
use Rattle.core_machine.proofs.Frames.{as_large, collector_framed}
use Rattle.core_machine.proofs.HasWords.{control_valid}
use Rattle.core_machine.proofs.OneOperation.{busy_there}
use Rattle.core_machine.proofs.Ranges.Events.{after_shaped}
use Rattle.core_machine.specs.Collector.{Collector, collector_after, control_after}
use Rattle.cell_words.specs.declared.controls.Control.{Control}
use Rattle.dlg_core.specs.Consistent.{IsConsistent}
use Rattle.dlg_core.proofs.Step.{consistent_after}
use Rattle.heap_rule.specs.declared.view.View.{View}
use Rattle.heap_rule.specs.Asks.{known_state}
use Rattle.heap_rule.specs.Steps.{AtCollectorStep}

-- The count of freed cells is far from the end of its word.

swept_few : (position : ℕ) (sweep : Sweeping) → swept_count position sweep ≤ position + 1
swept_few position sweeping.Fresh = omega arith
swept_few position (sweeping.Wiping k) = omega arith
swept_few position sweeping.BlackFound = omega arith
swept_few position sweeping.Done = omega arith

position_few : (at : Stage) → greatest_position_of at ≤ greatest_cells
position_few stage.Idle = omega arith
position_few stage.Sync1 = omega arith
position_few stage.Clear = omega arith
position_few stage.Sync2 = omega arith
position_few stage.Trace = omega arith
position_few stage.Sweep = omega arith

few_counted : (cycles cells : ℕ) → cycles ≤ greatest_cycles → cells ≤ greatest_cells
    → cycles * cells ≤ 16777216000000000
few_counted cycles cells few_cycles few_cells =
    let most : cycles * cells ≤ cycles * 4194304 = mul-le-mul_left cycles few_cells in
    omega (arith, most, few_cycles)

few_freed : (s : State) → InRange s → s.collector.number_freed < 2 ^ 63
few_freed s r =
    let valid = control_valid s r in
    let at : s.control.position ≤ greatest_position_of s.control.stage = valid.position in
    let counted = few_counted s.control.cycles s.cells valid.cycles r.few_cells in
    let swept = swept_few s.control.position s.collector.sweep in
    omega (arith, r.shape.counts_fit.freed_fits, counted, swept, at, position_few s.control.stage)

-- every state in range has them
pub state_within : (s : State) → InRange s → IsConsistent s
    → IsWithin s.cells s.control (progress_of s.collector)
state_within s r k = record {
  some_cells = r.shape.cells_fit.some_cells;
  few_cells = r.few_cells;
  valid = control_valid s r;
  cycles_fit = r.shape.control_fits.cycles_fit;
  busy = busy_there s r.shape;
  scan_fits = r.shape.names_fit.scan_fits;
  traces = λ scan is. (k.tracing.scans scan is).traces;
  few_freed = few_freed s r;
}

module _ {P : Type 0} {fixed : ℕ → Bool} {v w : View P} {e : Event} {number : ℕ} where
  -- of the state after a step the seat knows the parts that they speak of
  pub within_after : maker e ≡ None → AtCollectorStep fixed v e number w
      → IsWithin w.shape.cells w.control (progress_of w.part)
  within_after made at =
      let s = at.core in
      let t = after s e in
      let shaped : IsShaped t = after_shaped s e at.ours.shown.shaped at.happens in
      let sizes = as_large s e in
      let framed = collector_framed s e made in
      let few : s.cells ≤ greatest_cells =
      subst (λ (n : ℕ). n ≤ greatest_cells) (sym at.ours.cells) at.ours.few in
      let range : InRange t = record {
        shape = shaped;
        few_cells = subst (λ (n : ℕ). n ≤ greatest_cells) (sym sizes.cells) few;
      } in
      let cells : t.cells ≡ w.shape.cells =
      sizes.cells ∙ at.ours.cells ∙ ap (λ (x : View P). x.shape.cells) (sym at.new) in
      let control : t.control ≡ w.control =
      framed.control ∙ ap (λ (x : Control). control_after x e) at.ours.control
      ∙ ap (λ (x : View P). x.control) (sym at.new) in
      let part : t.collector ≡ w.part =
      framed.collector
      ∙ (λ j. collector_after (at.ours.cells j) (at.ours.control j) (at.ours.part j) e
      (found_by s e))
      ∙ ap (λ (x : View P). x.part) (sym at.new) in
      subst (λ (x : State). IsWithin x.cells x.control (progress_of x.collector))
      (λ j. known_state (cells j) t.mutators (control j) (part j))
      (state_within t range
      (consistent_after s e at.ours.shown.shaped at.ours.shown.consistent at.happens))

  -- and an answer is kept for each mutator
  pub answers_after : maker e ≡ None → AtCollectorStep fixed v e number w
      → length w.part.answered ≡ w.shape.mutators
  answers_after made at =
      let s = at.core in
      let framed = collector_framed s e made in
      let part : (after s e).collector ≡ w.part =
      framed.collector
      ∙ (λ j. collector_after (at.ours.cells j) (at.ours.control j) (at.ours.part j) e
      (found_by s e))
      ∙ ap (λ (x : View P). x.part) (sym at.new) in
      ap (λ (x : Collector). length x.answered) (sym part)
      ∙ (after_shaped s e at.ours.shown.shaped at.happens).mutators_fit.answered_fit
      ∙ (as_large s e).mutators ∙ at.ours.mutators
      ∙ ap (λ (x : View P). x.shape.mutators) (sym at.new)
