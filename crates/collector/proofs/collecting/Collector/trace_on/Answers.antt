use Rattle.std.proofs.Common.{Option, is_none, refl, sym, ◌∙◌, ap, arith}
use Rattle.std.proofs.lemmas.Bool.{and_from, and_parts}
use Rattle.cell_words.specs.declared.controls.Control.{Control}
use Rattle.cell_words.specs.declared.controls.Stage.{Stage}
use Rattle.cell_words.specs.declared.controls.Stage.TheVariants as stage
use Rattle.core_machine.specs.Words.{same_stage}
use Rattle.core_machine.specs.declared.events.Event.TheVariants as event
use Rattle.core_machine.specs.declared.events.Found.TheVariants as finds
use Rattle.core_machine.specs.declared.progress.Scanning.{Scanning}
use Rattle.collector.specs.Bound.{Bound, control_of, part_of}
use Rattle.collector.specs.Counting.{nothing}
use Rattle.collector.proofs.GoingOn.{past_on, underway_at}
use Rattle.collector.proofs.Joining.{does_as, does_still}
use Rattle.collector.proofs.Moving.{all_heard, moved_quiet, same_mutators, steps_at}
use Rattle.collector.proofs.Moving.{still_asking}
use Rattle.collector.proofs.collecting.Collector.trace_on.Goals as goal

pub post_once-requires : goal.post_once-requires
post_once-requires g c =
    let traced = and_parts _ _ (sym c.is_traced.ensures.traced ∙ c.if-is_traced.true) in
    record {
      may = and_from _ _ (and_from _ _ (and_from _ _ (and_from _ _
          (ap (λ (s : Stage). same_stage s stage.Trace) c.requires.stage)
          (all_heard c.args.heard c.args.self.now c.requires.all c.requires.tracing.asking))
          (ap (λ (s : Option Scanning). is_none s) c.requires.tracing.asking.scan))
          traced.0)
          traced.1;
    }

pub returns-then-is_traced : goal.returns-then-is_traced
returns-then-is_traced g c =
    let a = c.args.self.now in
    let b = c.post_once.new.self in
    let told = c.post_once.ensures.told in
    let does = does_still a b (event.Post stage.Sweep) finds.Stored refl refl told
    c.post_once.ensures.known in
    record {
      stops = tt;
      moved =
          moved_quiet stage.Trace _ nothing a b refl refl
          (steps_at stage.Sweep c.args.heard b (ap (λ (x : Bound _). (control_of x).stage) told)
          (record {
            within = omega (arith, ap (λ (x : Bound _). (control_of x).position) told);
            fresh = ap (λ (x : Bound _). (part_of x).sweep) told;
          }))
          (does_as nothing c.nothing.result a b c.nothing.ensures.report does)
          (λ start so_far so. underway_at stage.Sweep _ start b
          (ap (λ (x : Bound _). (control_of x).stage) told)
          (past_on so_far c.nothing.result start a b
          (does_as nothing c.nothing.result a b c.nothing.ensures.report does) so)) does;
    }

pub trace_some-came-requires : goal.trace_some-came-requires
trace_some-came-requires g c =
    record {
      some = omega (arith, c.cells-cells.ensures.cells, c.cells-cells.ensures.some);
      stage = c.requires.stage;
      answered = all_heard c.args.heard c.args.self.now c.requires.all c.requires.tracing.asking;
      within = c.requires.tracing.within;
      scan = c.requires.tracing.asking.scan;
    }

pub returns : goal.returns
returns g c =
    let a = c.args.self.now in
    let b = c.trace_some-came.new.self in
    let so = c.trace_some-came.ensures in
    let came = c.trace_some-came.result in
    record {
      stops = tt;
      moved =
          moved_quiet stage.Trace _ came a b refl so.few.freed
          (steps_at stage.Trace c.args.heard b
          (ap (λ (x : Control). x.stage) so.control ∙ c.requires.stage)
          (record {
            asking = still_asking c.args.heard a b (same_mutators a b so.does.kept)
                so.kept.answered so.scan c.requires.tracing.asking;
            within = so.within;
          }))
          so.does
          (λ start so_far under. underway_at stage.Trace _ start b
          (ap (λ (x : Control). x.stage) so.control ∙ c.requires.stage)
          (past_on so_far came start a b so.does under))
          so.does;
    }
