use Rattle.std.proofs.Common.{refl, ◌∙◌, ap, arith}
use Rattle.cell_words.specs.declared.controls.Control.{Control}
use Rattle.cell_words.specs.declared.controls.Stage.{Stage}
use Rattle.cell_words.specs.declared.controls.Stage.TheVariants as stage
use Rattle.core_machine.specs.Words.{is_handshake}
use Rattle.collector.specs.Counting.{nothing}
use Rattle.collector.proofs.GoingOn.{past_on, underway_at, went_on}
use Rattle.collector.proofs.Joining.{does_as}
use Rattle.collector.proofs.Moving.{moved_quiet, same_cells, steps_at}
use Rattle.collector.proofs.collecting.Collector.hear_or_trace.Goals as goal

pub hear-requires : goal.hear-requires
hear-requires g c =
    record {
      asks = ap (λ (s : Stage). is_handshake s) c.requires.stage;
      asking = c.requires.tracing.asking;
      mutator = omega (arith, c.if-heard-mutators.true, c.mutators.ensures.mutators);
    }

pub returns-then-heard-mutators : goal.returns-then-heard-mutators
returns-then-heard-mutators g c =
    let a = c.args.self.now in
    let b = c.hear.new.self in
    record {
      stops = c.hear.ensures.stops;
      moved =
          moved_quiet stage.Trace c.hear.result nothing a b c.hear.ensures.freed refl
          (steps_at stage.Trace c.hear.result.heard b
          (ap (λ (x : Control). x.stage) c.hear.ensures.control ∙ c.requires.stage)
          (record {
            asking = c.hear.ensures.asking;
            within = omega (
              arith,
              c.hear.ensures.cursor,
              same_cells a b c.hear.ensures.does.kept,
              c.requires.tracing.within,
            );
          }))
          c.hear.ensures.told
          (λ start so_far so. went_on c.hear.result.went so_far c.hear.result.came start c.hear.new.self
          c.hear.ensures.on
          (underway_at stage.Trace _ start c.hear.new.self
          (ap (λ (x : Control). x.stage) c.hear.ensures.control ∙ c.requires.stage)
          (past_on so_far c.hear.result.came start c.args.self.now c.hear.new.self
          (does_as nothing c.hear.result.came c.args.self.now c.hear.new.self c.hear.ensures.came c.hear.ensures.does) so)))
          c.hear.ensures.does;
    }
