use Rattle.std.proofs.Common.{◌≡◌, Bool, true, false, ℕ, replicate, refl, sym, ◌∙◌, ap, subst}
use Rattle.std.proofs.lemmas.Bool.{and_from}
use Rattle.std.proofs.lemmas.List.{length-replicate}
use Rattle.std.specs.List.{list_all}
use Rattle.cell_words.specs.declared.controls.Control.{Control}
use Rattle.cell_words.specs.declared.controls.Stage.{Stage}
use Rattle.cell_words.specs.declared.controls.Stage.TheVariants as stage
use Rattle.core_machine.specs.Collector.{Collector, nobody_answered}
use Rattle.core_machine.specs.Words.{same_stage}
use Rattle.core_machine.specs.declared.events.Event.TheVariants as event
use Rattle.core_machine.specs.declared.events.Found.TheVariants as finds
use Rattle.collector.specs.Bound.{Bound, control_of, mutators_of, part_of}
use Rattle.collector.proofs.Answered.{all_now, nobody_now}
use Rattle.collector.specs.Counting.{nothing}
use Rattle.collector.specs.Over.{Hears}
use Rattle.heap_rule.specs.Shape.{Shape}
use Rattle.collector.proofs.Cycling.{answered_all}
use Rattle.collector.proofs.Hearing.{hears_after, hears_either}
use Rattle.collector.proofs.Joining.{does_and, does_still}
use Rattle.collector.proofs.collecting.Collector.anchor_stage.Goals as goal

pub anchor_once-requires : goal.anchor_once-requires
anchor_once-requires g c =
    record {
      may = and_from _ _
          (ap (λ (x : Control). same_stage x.stage stage.Sync2) c.await_all-over.ensures.control
          ∙ ap (λ (s : Stage). same_stage s stage.Sync2) c.requires.stage)
          (answered_all c.await_all-over.new.self (mutators_of c.args.self.now)
          (ap (λ (p : Collector). p.answered) c.await_all-over.ensures.part));
    }

pub post_once-requires : goal.post_once-requires
post_once-requires g c =
    record {
      may = and_from _ _ (and_from _ _
          (ap (λ (x : Bound _). same_stage (control_of x).stage stage.Sync2)
          c.anchor_once.ensures.told.1
          ∙ ap (λ (x : Control). same_stage x.stage stage.Sync2) c.await_all-over.ensures.control
          ∙ ap (λ (s : Stage). same_stage s stage.Sync2) c.requires.stage)
          (ap (λ (x : Bound _). list_all (λ (answered : Bool). answered) (part_of x).answered)
          c.anchor_once.ensures.told.1
          ∙ ap (λ (p : Collector). list_all (λ (answered : Bool). answered) p.answered)
          c.await_all-over.ensures.part
          ∙ all_now (mutators_of c.args.self.now)))
          (ap (λ (x : Bound _). (part_of x).anchor_marked) c.anchor_once.ensures.told.1);
    }

pub await_all-again-requires-clause-nobody : goal.await_all-again-requires-clause-nobody
await_all-again-requires-clause-nobody g c =
    ap (λ (x : Bound _). (part_of x).answered) c.post_once.ensures.told
    ∙ ap (λ (x : Bound _). nobody_answered (part_of x).answered) c.anchor_once.ensures.told.1
    ∙ ap (λ (p : Collector). nobody_answered p.answered) c.await_all-over.ensures.part
    ∙ nobody_now (replicate (mutators_of c.args.self.now) true) (mutators_of c.args.self.now)
    (length-replicate (mutators_of c.args.self.now) true)
    ∙ ap (λ (n : ℕ). replicate n false)
    (sym (ap (λ (x : Bound _). mutators_of x) c.post_once.ensures.told
    ∙ ap (λ (x : Bound _). mutators_of x) c.anchor_once.ensures.told.1
    ∙ ap (λ (h : Shape). h.mutators) c.await_all-over.ensures.hears.kept.shape))

pub returns-clause-hears : goal.returns-clause-hears
returns-clause-hears g c =
    let n = mutators_of c.args.self.now in
    let same : mutators_of c.post_once.new.self ≡ n =
    ap (λ (x : Bound _). mutators_of x) c.post_once.ensures.told
    ∙ ap (λ (x : Bound _). mutators_of x) c.anchor_once.ensures.told.1
    ∙ ap (λ (h : Shape). h.mutators) c.await_all-over.ensures.hears.kept.shape in
    let anchored = does_still c.await_all-over.new.self c.anchor_once.new.self event.Anchor
    (finds.Colour c.anchor_once.ensures.told.0) refl refl c.anchor_once.ensures.told.1
    c.anchor_once.ensures.told.2 in
    let posted = does_still c.anchor_once.new.self c.post_once.new.self (event.Post stage.Trace)
    finds.Stored refl refl c.post_once.ensures.told c.post_once.ensures.known in
    let between = does_and nothing c.await_all-over.new.self c.anchor_once.new.self
    c.post_once.new.self anchored posted in
    let again = subst (λ (k : ℕ). Hears c.await_all-again.result 0 k c.post_once.new.self
    c.await_all-again.new.self) same c.await_all-again.ensures.hears in
    hears_either c.await_all-over.result c.await_all-again.result c.either.result n
    c.args.self.now c.await_all-over.new.self c.await_all-again.new.self c.either.ensures.either
    c.await_all-over.ensures.hears
    (hears_after c.await_all-again.result 0 n c.await_all-over.new.self c.post_once.new.self
    c.await_all-again.new.self between again)
