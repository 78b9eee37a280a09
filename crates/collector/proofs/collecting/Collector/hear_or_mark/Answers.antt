use Rattle.std.proofs.Common.{◌≤◌, Bool, false, ℕ, replicate, refl, sym, ◌∙◌, ap, arith}
use Rattle.std.proofs.lemmas.Bool.{and_from}
use Rattle.std.specs.List.{list_all}
use Rattle.cell_words.specs.declared.controls.Control.{Control}
use Rattle.cell_words.specs.declared.controls.Stage.{Stage}
use Rattle.cell_words.specs.declared.controls.Stage.TheVariants as stage
use Rattle.core_machine.specs.Collector.{nobody_answered}
use Rattle.core_machine.specs.Words.{is_handshake, same_stage}
use Rattle.core_machine.specs.declared.events.Event.TheVariants as event
use Rattle.core_machine.specs.declared.events.Found.TheVariants as finds
use Rattle.collector.specs.Bound.{Bound, control_of, mutators_of, part_of}
use Rattle.collector.specs.Counting.{nothing}
use Rattle.collector.proofs.Answered.{nobody_now}
use Rattle.collector.proofs.GoingOn.{past_on, underway_at, went_on}
use Rattle.collector.proofs.Joining.{does_and, does_as, does_still}
use Rattle.collector.proofs.Moving.{all_heard, moved_quiet, nobody_yet, same_mutators, steps_at}
use Rattle.collector.proofs.collecting.Collector.hear_or_mark.Goals as goal

pub hear-requires-clause-asks : goal.hear-requires-clause-asks
hear-requires-clause-asks g c = ap (λ (s : Stage). is_handshake s) c.requires.stage

pub returns-then-heard-mutators : goal.returns-then-heard-mutators
returns-then-heard-mutators g c =
    record {
      stops = c.hear.ensures.stops;
      moved =
          moved_quiet stage.Sync2 c.hear.result nothing c.args.self.now c.hear.new.self
          c.hear.ensures.freed refl
          (steps_at stage.Sync2 c.hear.result.heard c.hear.new.self
          (ap (λ (x : Control). x.stage) c.hear.ensures.control ∙ c.requires.stage)
          c.hear.ensures.asking)
          c.hear.ensures.told
          (λ start so_far so. went_on c.hear.result.went so_far c.hear.result.came start c.hear.new.self
          c.hear.ensures.on
          (underway_at stage.Sync2 _ start c.hear.new.self
          (ap (λ (x : Control). x.stage) c.hear.ensures.control ∙ c.requires.stage)
          (past_on so_far c.hear.result.came start c.args.self.now c.hear.new.self
          (does_as nothing c.hear.result.came c.args.self.now c.hear.new.self c.hear.ensures.came c.hear.ensures.does) so)))
          c.hear.ensures.does;
    }

pub anchor_once-requires : goal.anchor_once-requires
anchor_once-requires g c =
    record {
      may = and_from _ _ (ap (λ (s : Stage). same_stage s stage.Sync2) c.requires.stage)
          (all_heard c.args.heard c.args.self.now
          (omega (arith, c.if-heard-mutators.false, c.mutators.ensures.mutators)) c.requires.asking);
    }

pub post_once-requires : goal.post_once-requires
post_once-requires g c =
    let all : mutators_of c.args.self.now ≤ c.args.heard =
    omega (arith, c.if-heard-mutators.false, c.mutators.ensures.mutators) in
    let told = c.anchor_once.ensures.told.1 in
    record {
      may = and_from _ _ (and_from _ _
          (ap (λ (x : Bound _). same_stage (control_of x).stage stage.Sync2) told
          ∙ ap (λ (s : Stage). same_stage s stage.Sync2) c.requires.stage)
          (ap (λ (x : Bound _). list_all (λ (answered : Bool). answered) (part_of x).answered) told
          ∙ all_heard c.args.heard c.args.self.now all c.requires.asking))
          (ap (λ (x : Bound _). (part_of x).anchor_marked) told);
    }

pub returns : goal.returns
returns g c =
    let a = c.args.self.now in
    let m = c.anchor_once.new.self in
    let b = c.post_once.new.self in
    let marks = c.anchor_once.ensures.told in
    let told = c.post_once.ensures.told in
    let does = does_and nothing a m b
    (does_still a m event.Anchor (finds.Colour marks.0) refl refl marks.1 marks.2)
    (does_still m b (event.Post stage.Trace) finds.Stored refl refl told
    c.post_once.ensures.known) in
    record {
      stops = tt;
      moved =
          moved_quiet stage.Sync2 _ nothing a b refl refl
          (steps_at stage.Trace 0 b (ap (λ (x : Bound _). (control_of x).stage) told)
          (record {
            asking = nobody_yet b
                (ap (λ (x : Bound _). (part_of x).answered) told
                ∙ ap (λ (x : Bound _). nobody_answered (part_of x).answered) marks.1
                ∙ nobody_now (part_of a).answered (mutators_of a)
                (c.mutators.ensures.answers ∙ c.mutators.ensures.mutators)
                ∙ ap (λ (n : ℕ). replicate n false) (sym (same_mutators a b does.kept)))
                (ap (λ (x : Bound _). (part_of x).scan) told
                ∙ ap (λ (x : Bound _). (part_of x).scan) marks.1 ∙ c.requires.asking.scan);
            within = omega (arith, ap (λ (x : Bound _). (part_of x).cursor) told);
          }))
          (does_as nothing c.nothing.result a b c.nothing.ensures.report does)
          (λ start so_far so. underway_at stage.Trace _ start b
          (ap (λ (x : Bound _). (control_of x).stage) told)
          (past_on so_far c.nothing.result start a b
          (does_as nothing c.nothing.result a b c.nothing.ensures.report does) so)) does;
    }
