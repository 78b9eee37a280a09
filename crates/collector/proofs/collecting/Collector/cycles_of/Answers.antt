use Rattle.std.proofs.Common.{◌≡◌, ◌+◌, ℕ, sym, ◌∙◌, ap, subst, arith}
use Rattle.cell_words.specs.declared.controls.Control.{Control}
use Rattle.heap_rule.specs.Shape.{Shape}
use Rattle.collector.specs.Bound.{control_of, mutators_of}
use Rattle.collector.specs.Cycles.{Heard, MadeCycles}
use Rattle.collector.specs.Replay.{fresh_work_of}
use Rattle.collector.specs.Serving.{ServesOn, next_rest}
use Rattle.collector.specs.Stretches.{Stretch}
use Rattle.collector.specs.declared.serving.Rest.{Rest}
use Rattle.collector.proofs.InARow.{made_all, made_done, serves_more}
use Rattle.free_cells.specs.Hints.{counts_of}
use Rattle.free_cells.specs.declared.counts.Counts.{Counts}
use Rattle.collector.specs.Offering.{OffersAll, freed_since}
use Rattle.collector.proofs.Joining.{stretch_as, stretch_then}
use Rattle.collector.proofs.Offered.{offers_then}
use Rattle.collector.proofs.collecting.Collector.cycles_of.Goals as goal

pub returns-then-is_done-clause-made : goal.returns-then-is_done-clause-made
returns-then-is_done-clause-made g c =
    let n = mutators_of c.args.self.now in
    let old = c.loop-made in (
      old._made,
      old.invariant.2,
      stretch_as (ServesOn old.rest n old._made old.freed)
          (MadeCycles n c.args.cycles old._made old.freed) c.args.self.now old.self
          (λ xs so. made_done old.rest n c.args.cycles old._made old.freed xs
          (sym c.is_done.ensures.done ∙ c.if-is_done.true) (omega (arith, c.loop-made-test.true))
          so) old.invariant.0,
    )

cycles_more : (a b c k : ℕ) → a ≡ b + 1 → b ≡ c + k → a ≡ c + (k + 1)
cycles_more a b c k first second = omega arith

pub loop-made-preserved : goal.loop-made-preserved
loop-made-preserved g c =
    let n = mutators_of c.args.self.now in
    let old = c.loop-made in
    let cycle = c.one_cycle-made in
    let many = ap (λ (h : Shape). h.mutators) old.invariant.0.kept.shape in
    let over = cycle.result.over in
    let report = cycle.result.report in (
      subst (λ (r : Rest). Stretch (ServesOn r n (old._made + 1) (old.freed + report.freed))
          c.args.self.now cycle.new.self) (sym c.next_rest-rest.ensures.rest)
          (stretch_then (ServesOn old.rest n old._made old.freed)
          (Heard (fresh_work_of old.self) (mutators_of old.self) report over)
          (ServesOn (next_rest old.rest over) n (old._made + 1) (old.freed + report.freed))
          c.args.self.now old.self cycle.new.self
          (λ xs ys so heard. serves_more old.rest over n old._made old.freed
          (fresh_work_of old.self) report xs ys
          (sym c.is_done.ensures.done ∙ c.if-is_done.false) so
          (subst (λ (k : ℕ). Heard (fresh_work_of old.self) k report over ys) many heard))
          old.invariant.0 cycle.ensures.heard),
      ap (λ (x : Control). x.stage) cycle.ensures.control ∙ old.invariant.1,
      cycles_more (control_of cycle.new.self).cycles (control_of old.self).cycles
          (control_of c.args.self.now).cycles old._made
          (ap (λ (x : Control). x.cycles) cycle.ensures.control) old.invariant.2,
      cycle.ensures.queue ∙ (c.await_turn.ensures.queue ∙ old.invariant.3),
      omega (
        arith,
        cycle.ensures.puts,
        ap (λ (x : Counts). x.puts) c.await_turn.ensures.counts,
        old.invariant.4,
      ),
      omega (arith, cycle.ensures.few, old.invariant.5),
      offers_then _ _ c.args.self.now old.self cycle.new.self (counts_of c.args.hints.now)
          (counts_of old.hints) (counts_of cycle.new.hints) old.invariant.0 cycle.ensures.heard
          old.invariant.6
          (subst (λ (x : Counts). OffersAll (freed_since old.self cycle.new.self) x
          (counts_of cycle.new.hints)) c.await_turn.ensures.counts cycle.ensures.offered),
    )

pub returns-clause-made : goal.returns-clause-made
returns-clause-made g c =
    let n = mutators_of c.args.self.now in
    let old = c.loop-made in (
      old._made,
      old.invariant.2,
      stretch_as (ServesOn old.rest n old._made old.freed)
          (MadeCycles n c.args.cycles old._made old.freed) c.args.self.now old.self
          (λ xs so. made_all old.rest n c.args.cycles old._made old.freed xs
          (omega (arith, c.loop-made-test.false)) so) old.invariant.0,
    )
