use Rattle.std.proofs.Common.{◌≡◌, false, ℕ, replicate, refl, sym, ◌∙◌, ap, subst}
use Rattle.heap_rule.specs.Shape.{Shape}
use Rattle.collector.specs.Bound.{mutators_of}
use Rattle.collector.specs.Counting.{nothing}
use Rattle.collector.specs.Over.{Hears}
use Rattle.free_cells.specs.Hints.{counts_of}
use Rattle.collector.proofs.Hearing.{hears_after, hears_before, hears_does}
use Rattle.collector.proofs.Joining.{does_after}
use Rattle.collector.proofs.Offered.{offers_after}
use Rattle.collector.proofs.collecting.Collector.collect.Goals as goal

pub anchor_stage-over-requires-clause-nobody : goal.anchor_stage-over-requires-clause-nobody
anchor_stage-over-requires-clause-nobody g c =
    c.clear_stage.ensures.nobody ∙ c.requires.nobody
    ∙ ap (λ (n : ℕ). replicate n false)
    (sym (ap (λ (h : Shape). h.mutators) c.clear_stage.ensures.does.kept.shape))

pub returns-clause-hears : goal.returns-clause-hears
returns-clause-hears g c =
    let n = mutators_of c.args.self.now in
    let same : mutators_of c.clear_stage.new.self ≡ n =
    ap (λ (h : Shape). h.mutators) c.clear_stage.ensures.does.kept.shape in
    hears_before c.free_stage-report.result c.anchor_stage-over.result n c.args.self.now
    c.anchor_stage-over.new.self c.free_stage-report.new.self
    (hears_after c.anchor_stage-over.result 0 n c.args.self.now c.clear_stage.new.self
    c.anchor_stage-over.new.self c.clear_stage.ensures.does
    (subst (λ (k : ℕ). Hears c.anchor_stage-over.result 0 k c.clear_stage.new.self
    c.anchor_stage-over.new.self) same c.anchor_stage-over.ensures.hears))
    c.free_stage-report.ensures.does

pub returns-clause-offered : goal.returns-clause-offered
returns-clause-offered g c =
    offers_after nothing _ c.args.self.now c.anchor_stage-over.new.self
    c.free_stage-report.new.self
    (counts_of c.args.hints.now) (counts_of c.free_stage-report.new.hints) refl
    (does_after nothing c.args.self.now c.clear_stage.new.self c.anchor_stage-over.new.self
    c.clear_stage.ensures.does
    (hears_does c.anchor_stage-over.result 0 (mutators_of c.clear_stage.new.self)
    c.clear_stage.new.self c.anchor_stage-over.new.self c.anchor_stage-over.ensures.hears))
    c.free_stage-report.ensures.does c.free_stage-report.ensures.offered
