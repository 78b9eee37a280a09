use Rattle.std.proofs.Common.{◌≡◌, ◌<◌, false, ℕ, replicate, refl, sym, ◌∙◌, ap, arith}
use Rattle.std.proofs.Common.{eq-eqb}
use Rattle.std.proofs.lemmas.Bool.{and_from, lt-ltb}
use Rattle.cell_words.specs.declared.controls.Stage.{Stage}
use Rattle.cell_words.specs.declared.controls.Stage.TheVariants as stage
use Rattle.core_machine.specs.Words.{same_stage}
use Rattle.core_machine.specs.declared.events.Event.TheVariants as event
use Rattle.core_machine.specs.declared.events.Found.TheVariants as finds
use Rattle.collector.specs.Bound.{Bound, cells_of, control_of, mutators_of, part_of}
use Rattle.collector.specs.Counting.{nothing}
use Rattle.collector.proofs.Answered.{nobody_now}
use Rattle.collector.proofs.GoingOn.{past_on, underway_at}
use Rattle.collector.proofs.Joining.{does_as, does_still}
use Rattle.collector.proofs.Moving.{moved_quiet, nobody_yet, same_cells, same_mutators, steps_at}
use Rattle.collector.proofs.collecting.Collector.clear_next.Goals as goal

pub clear_once-requires : goal.clear_once-requires
clear_once-requires g c =
    let lt : (part_of c.args.self.now).cursor < cells_of c.args.self.now =
    omega (arith, c.if-cursor-cells.true, c.cursor.ensures.cursor, c.cells.ensures.cells) in
    record {
      may = and_from _ _ (ap (λ (s : Stage). same_stage s stage.Clear) c.requires.stage)
          (lt-ltb _ _ lt);
    }

pub returns-then-cursor-cells : goal.returns-then-cursor-cells
returns-then-cursor-cells g c =
    let a = c.args.self.now in
    let b = c.clear_once.new.self in
    let told = c.clear_once.ensures.told in
    let does = does_still a b event.ClearCell (finds.Colour told.0) refl refl told.1 told.2 in
    record {
      stops = λ heard. tt;
      moved =
          moved_quiet stage.Clear _ nothing a b refl refl
          (steps_at stage.Clear 0 b
          (ap (λ (x : Bound _). (control_of x).stage) told.1 ∙ c.requires.stage)
          (record {
            within = omega (
              arith,
              ap (λ (x : Bound _). (part_of x).cursor) told.1,
              same_cells a b does.kept,
              c.if-cursor-cells.true,
              c.cursor.ensures.cursor,
              c.cells.ensures.cells,
            );
            scan = ap (λ (x : Bound _). (part_of x).scan) told.1 ∙ c.requires.clearing.scan;
          }))
          (does_as nothing c.nothing.result a b c.nothing.ensures.report does)
          (λ start so_far so. underway_at stage.Clear _ start b
          (ap (λ (x : Bound _). (control_of x).stage) told.1 ∙ c.requires.stage)
          (past_on so_far c.nothing.result start a b
          (does_as nothing c.nothing.result a b c.nothing.ensures.report does) so)) does;
    }

pub post_once-requires : goal.post_once-requires
post_once-requires g c =
    let last : (part_of c.args.self.now).cursor ≡ cells_of c.args.self.now =
    omega (
      arith,
      c.if-cursor-cells.false,
      c.cursor.ensures.cursor,
      c.cells.ensures.cells,
      c.requires.clearing.within,
    ) in
    record {
      may = and_from _ _ (ap (λ (s : Stage). same_stage s stage.Clear) c.requires.stage)
          (eq-eqb _ _ last);
    }

pub returns : goal.returns
returns g c =
    let a = c.args.self.now in
    let b = c.post_once.new.self in
    let told = c.post_once.ensures.told in
    let does = does_still a b (event.Post stage.Sync2) finds.Stored refl refl told
    c.post_once.ensures.known in
    record {
      stops = λ heard. tt;
      moved =
          moved_quiet stage.Clear _ nothing a b refl refl
          (steps_at stage.Sync2 0 b (ap (λ (x : Bound _). (control_of x).stage) told)
          (nobody_yet b
          (ap (λ (x : Bound _). (part_of x).answered) told
          ∙ nobody_now (part_of a).answered (mutators_of a)
          (c.mutators-mutators.ensures.answers ∙ c.mutators-mutators.ensures.mutators)
          ∙ ap (λ (n : ℕ). replicate n false) (sym (same_mutators a b does.kept)))
          (ap (λ (x : Bound _). (part_of x).scan) told ∙ c.requires.clearing.scan)))
          (does_as nothing c.nothing-2.result a b c.nothing-2.ensures.report does)
          (λ start so_far so. underway_at stage.Sync2 _ start b
          (ap (λ (x : Bound _). (control_of x).stage) told)
          (past_on so_far c.nothing-2.result start a b
          (does_as nothing c.nothing-2.result a b c.nothing-2.ensures.report does) so)) does;
    }
