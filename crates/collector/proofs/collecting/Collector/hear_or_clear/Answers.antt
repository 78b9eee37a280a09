use Rattle.std.proofs.Common.{◌<◌, ℕ, refl, sym, ◌∙◌, ap, subst, arith}
use Rattle.std.proofs.lemmas.Bool.{and_from}
use Rattle.cell_words.specs.declared.controls.Control.{Control}
use Rattle.cell_words.specs.declared.controls.Stage.{Stage}
use Rattle.cell_words.specs.declared.controls.Stage.TheVariants as stage
use Rattle.core_machine.specs.Words.{is_handshake, same_stage}
use Rattle.core_machine.specs.declared.events.Event.TheVariants as event
use Rattle.core_machine.specs.declared.events.Found.TheVariants as finds
use Rattle.collector.specs.Bound.{Bound, control_of, part_of}
use Rattle.collector.specs.Counting.{nothing}
use Rattle.collector.proofs.GoingOn.{first_clears, first_on, underway_at, went_on}
use Rattle.collector.proofs.Joining.{does_as, does_still}
use Rattle.collector.proofs.Moving.{all_heard, moved_quiet, steps_at}
use Rattle.collector.proofs.collecting.Collector.hear_or_clear.Goals as goal

pub hear-requires-clause-asks : goal.hear-requires-clause-asks
hear-requires-clause-asks g c = ap (λ (s : Stage). is_handshake s) c.requires.stage

pub returns-then-heard-mutators : goal.returns-then-heard-mutators
returns-then-heard-mutators g c =
    record {
      stops = c.hear.ensures.stops;
      moved =
          moved_quiet stage.Sync1 c.hear.result nothing c.args.self.now c.hear.new.self
          c.hear.ensures.freed refl
          (steps_at stage.Sync1 c.hear.result.heard c.hear.new.self
          (ap (λ (x : Control). x.stage) c.hear.ensures.control ∙ c.requires.stage)
          c.hear.ensures.asking)
          c.hear.ensures.told
          (λ start so_far so. went_on c.hear.result.went so_far c.hear.result.came start c.hear.new.self
          c.hear.ensures.on
          (underway_at stage.Sync1 _ start c.hear.new.self
          (ap (λ (x : Control). x.stage) c.hear.ensures.control ∙ c.requires.stage)
          (first_on so_far c.hear.result.came start c.args.self.now c.hear.new.self c.hear.ensures.came
          (does_as nothing c.hear.result.came c.args.self.now c.hear.new.self c.hear.ensures.came c.hear.ensures.does) so)))
          c.hear.ensures.does;
    }

pub post_once-requires : goal.post_once-requires
post_once-requires g c =
    record {
      may = and_from _ _ (ap (λ (s : Stage). same_stage s stage.Sync1) c.requires.stage)
          (all_heard c.args.heard c.args.self.now
          (omega (arith, c.if-heard-mutators.false, c.mutators.ensures.mutators)) c.requires.asking);
    }

pub returns : goal.returns
returns g c =
    let a = c.args.self.now in
    let b = c.post_once.new.self in
    let told = c.post_once.ensures.told in
    let does = does_still a b (event.Post stage.Clear) finds.Stored refl refl told
    c.post_once.ensures.known in
    record {
      stops = tt;
      moved =
          moved_quiet stage.Sync1 _ nothing a b refl refl
          (steps_at stage.Clear c.args.heard b (ap (λ (x : Bound _). (control_of x).stage) told)
          (record {
            within = omega (arith, ap (λ (x : Bound _). (part_of x).cursor) told);
            scan = ap (λ (x : Bound _). (part_of x).scan) told ∙ c.requires.asking.scan;
          }))
          (does_as nothing c.nothing.result a b c.nothing.ensures.report does)
          (λ start so_far so. underway_at stage.Clear _ start b
          (ap (λ (x : Bound _). (control_of x).stage) told)
          (first_clears so_far c.nothing.result start a b c.nothing.ensures.report c.requires.stage
          (c.mutators.ensures.over ∙ c.mutators.ensures.mutators)
          (λ some. c.mutators.ensures.knows
          (subst (λ (n : ℕ). 0 < n) (sym c.mutators.ensures.mutators) some))
          (told, c.post_once.ensures.known) so)) does;
    }
