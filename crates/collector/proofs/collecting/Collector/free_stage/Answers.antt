use Rattle.std.proofs.Common.{Option, is_none, refl, ◌∙◌, ap}
use Rattle.std.proofs.lemmas.Bool.{and_from, and_parts}
use Rattle.cell_words.specs.declared.controls.Control.{Control}
use Rattle.cell_words.specs.declared.controls.Stage.{Stage}
use Rattle.cell_words.specs.declared.controls.Stage.TheVariants as stage
use Rattle.core_machine.specs.Words.{same_stage}
use Rattle.core_machine.specs.declared.events.Event.TheVariants as event
use Rattle.core_machine.specs.declared.events.Found.TheVariants as finds
use Rattle.core_machine.specs.declared.progress.Scanning.{Scanning}
use Rattle.collector.specs.Bound.{mutators_of}
use Rattle.collector.specs.Counting.{frees}
use Rattle.free_cells.specs.Hints.{counts_of}
use Rattle.collector.proofs.Cycling.{answered_all}
use Rattle.collector.proofs.Joining.{does_and, does_both, does_still}
use Rattle.collector.proofs.Offered.{offers_after}
use Rattle.collector.proofs.Scanning.{frees_too}
use Rattle.collector.proofs.collecting.Collector.free_stage.Goals as goal

pub trace_all-traced-requires-clause-answered : goal.trace_all-traced-requires-clause-answered
trace_all-traced-requires-clause-answered g c =
    answered_all c.args.self.now (mutators_of c.args.self.now) c.requires.all

pub post_once-requires : goal.post_once-requires
post_once-requires g c =
    let traced = and_parts _ _ c.trace_all-traced.ensures.traced in
    record {
      may = and_from _ _ (and_from _ _ (and_from _ _ (and_from _ _
          (ap (λ (x : Control). same_stage x.stage stage.Trace) c.trace_all-traced.ensures.control
          ∙ ap (λ (s : Stage). same_stage s stage.Trace) c.requires.stage)
          (answered_all c.trace_all-traced.new.self (mutators_of c.args.self.now)
          (c.trace_all-traced.ensures.kept.answered ∙ c.requires.all)))
          (ap (λ (s : Option Scanning). is_none s) c.trace_all-traced.ensures.scan))
          traced.0)
          traced.1;
    }

pub returns-clause-does : goal.returns-clause-does
returns-clause-does g c =
    does_both c.trace_all-traced.result (frees c.sweep_all-freed.result) _
    c.args.self.now c.post_once.new.self c.sweep_all-freed.new.self
    (frees_too c.trace_all-traced.result c.sweep_all-freed.result
    c.trace_all-traced.ensures.few.freed)
    (does_and c.trace_all-traced.result c.args.self.now c.trace_all-traced.new.self
    c.post_once.new.self c.trace_all-traced.ensures.does
    (does_still c.trace_all-traced.new.self c.post_once.new.self (event.Post stage.Sweep)
    finds.Stored refl refl c.post_once.ensures.told c.post_once.ensures.known))
    c.sweep_all-freed.ensures.does

pub returns-clause-offered : goal.returns-clause-offered
returns-clause-offered g c =
    offers_after c.trace_all-traced.result _ c.args.self.now c.post_once.new.self
    c.sweep_all-freed.new.self (counts_of c.args.hints.now) (counts_of c.sweep_all-freed.new.hints)
    c.trace_all-traced.ensures.few.freed
    (does_and c.trace_all-traced.result c.args.self.now c.trace_all-traced.new.self
    c.post_once.new.self c.trace_all-traced.ensures.does
    (does_still c.trace_all-traced.new.self c.post_once.new.self (event.Post stage.Sweep)
    finds.Stored refl refl c.post_once.ensures.told c.post_once.ensures.known))
    c.sweep_all-freed.ensures.does c.sweep_all-freed.ensures.offered
