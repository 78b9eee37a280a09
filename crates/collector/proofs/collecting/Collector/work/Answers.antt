use Rattle.std.proofs.Common.{◌≡◌, ◌<◌, true, false, ℕ, replicate, refl, sym, ◌∙◌, ap, subst}
use Rattle.std.proofs.lemmas.Bool.{and_from}
use Rattle.std.proofs.lemmas.List.{length-replicate}
use Rattle.cell_words.specs.declared.controls.Control.{Control}
use Rattle.cell_words.specs.declared.controls.Stage.{Stage}
use Rattle.cell_words.specs.declared.controls.Stage.TheVariants as stage
use Rattle.core_machine.specs.Collector.{Collector, nobody_answered}
use Rattle.core_machine.specs.Words.{same_stage}
use Rattle.core_machine.specs.declared.events.Event.TheVariants as event
use Rattle.core_machine.specs.declared.events.Found.TheVariants as finds
use Rattle.heap_rule.specs.Shape.{Shape}
use Rattle.collector.specs.Bound.{Bound, mutators_of, part_of}
use Rattle.collector.specs.Counting.{nothing}
use Rattle.collector.specs.Over.{HearsBeside}
use Rattle.free_cells.specs.Hints.{counts_of}
use Rattle.collector.proofs.Answered.{nobody_now}
use Rattle.collector.proofs.Cycling.{answered_all, made_of}
use Rattle.collector.proofs.Hearing.{beside_does, hears_does}
use Rattle.collector.proofs.Joining.{does_and, does_still}
use Rattle.collector.proofs.Offered.{offers_after}
use Rattle.collector.proofs.collecting.Collector.work.Goals as goal

pub post_once-requires : goal.post_once-requires
post_once-requires g c =
    record {
      may = and_from _ _
          (ap (λ (x : Control). same_stage x.stage stage.Sync1) c.await_all-over.ensures.control
          ∙ ap (λ (s : Stage). same_stage s stage.Sync1) c.requires.stage)
          (answered_all c.await_all-over.new.self (mutators_of c.args.self.now)
          (ap (λ (p : Collector). p.answered) c.await_all-over.ensures.part));
    }

pub collect-made-requires-clause-nobody : goal.collect-made-requires-clause-nobody
collect-made-requires-clause-nobody g c =
    ap (λ (x : Bound _). nobody_answered (part_of x).answered) c.post_once.ensures.told
    ∙ ap (λ (p : Collector). nobody_answered p.answered) c.await_all-over.ensures.part
    ∙ nobody_now (replicate (mutators_of c.args.self.now) true) (mutators_of c.args.self.now)
    (length-replicate (mutators_of c.args.self.now) true)
    ∙ ap (λ (n : ℕ). replicate n false)
    (sym (ap (λ (x : Bound _). mutators_of x) c.post_once.ensures.told
    ∙ ap (λ (h : Shape). h.mutators) c.await_all-over.ensures.hears.kept.shape))

pub returns-clause-made : goal.returns-clause-made
returns-clause-made g c =
    let n = mutators_of c.args.self.now in
    let same = c.mutators-mutators.ensures.mutators
    ∙ ap (λ (h : Shape). h.mutators) c.await_all-over.ensures.hears.kept.shape in
    let posted : mutators_of c.post_once.new.self ≡ n =
    ap (λ (x : Bound _). mutators_of x) c.post_once.ensures.told
    ∙ ap (λ (h : Shape). h.mutators) c.await_all-over.ensures.hears.kept.shape in
    made_of c.await_all-over.result c.collect-made.result.over c.either.result n
    c.collect-made.result.report c.args.self.now
    c.await_all-over.new.self c.post_once.new.self c.collect-made.new.self
    c.either.ensures.either
    c.await_all-over.ensures.hears c.post_once.ensures.told c.post_once.ensures.known
    (subst (λ (k : ℕ). HearsBeside c.collect-made.result.report c.collect-made.result.over 0 k
    c.post_once.new.self c.collect-made.new.self) posted c.collect-made.ensures.hears)
    (c.mutators-mutators.ensures.over ∙ same)
    (λ some. c.mutators-mutators.ensures.knows
    (subst (λ (k : ℕ). 0 < k) (sym same) some))
    (ap (λ (x : Control). x.stage) c.await_all-over.ensures.control ∙ c.requires.stage)
    (ap (λ (x : Control). x.stage) c.collect-made.ensures.control)

pub returns-clause-offered : goal.returns-clause-offered
returns-clause-offered g c =
    offers_after nothing _ c.args.self.now c.post_once.new.self c.collect-made.new.self
    (counts_of c.args.hints.now) (counts_of c.collect-made.new.hints) refl
    (does_and nothing c.args.self.now c.await_all-over.new.self c.post_once.new.self
    (hears_does c.await_all-over.result 0 (mutators_of c.args.self.now) c.args.self.now
    c.await_all-over.new.self c.await_all-over.ensures.hears)
    (does_still c.await_all-over.new.self c.post_once.new.self (event.Post stage.Clear)
    finds.Stored refl refl c.post_once.ensures.told c.post_once.ensures.known))
    (beside_does c.collect-made.result.report c.collect-made.result.over
    (mutators_of c.post_once.new.self) c.post_once.new.self c.collect-made.new.self
    c.collect-made.ensures.hears)
    c.collect-made.ensures.offered
