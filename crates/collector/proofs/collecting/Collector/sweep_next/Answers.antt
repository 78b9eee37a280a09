use Rattle.std.proofs.Common.{◌<◌, ◌≡◌, ◌++◌, ℕ, List, refl, ◌∙◌, ap, arith}
use Rattle.std.proofs.Common.{eq-eqb}
use Rattle.std.proofs.lemmas.Bool.{and_from, lt-ltb}
use Rattle.std.proofs.lemmas.List.{append-nil}
use Rattle.cell_words.specs.declared.controls.Control.{Control}
use Rattle.cell_words.specs.declared.controls.Stage.{Stage}
use Rattle.cell_words.specs.declared.controls.Stage.TheVariants as stage
use Rattle.core_machine.specs.Sweep.{is_done}
use Rattle.core_machine.specs.Words.{same_stage}
use Rattle.core_machine.specs.declared.events.Event.TheVariants as event
use Rattle.core_machine.specs.declared.events.Found.TheVariants as finds
use Rattle.core_machine.specs.declared.progress.Sweeping.{Sweeping}
use Rattle.collector.specs.Bound.{Bound, cells_of, control_of, part_of}
use Rattle.collector.specs.Counting.{nothing}
use Rattle.collector.specs.Offering.{freed_since}
use Rattle.collector.specs.Stepping.{counted_in}
use Rattle.collector.specs.Underway.{Ends}
use Rattle.collector.proofs.GoingOn.{ends_whole, past_on, underway_at}
use Rattle.collector.proofs.Joining.{does_and, does_as, does_still}
use Rattle.collector.proofs.Moving.{ends_free, ends_kept, freed_nothing, freed_two, rest_steps}
use Rattle.collector.proofs.Moving.{same_cells, steps_at}
use Rattle.collector.proofs.collecting.Collector.sweep_next.Goals as goal

pub settle-freed-requires : goal.settle-freed-requires
settle-freed-requires g c =
    record {
      stage = c.requires.stage;
      fresh = c.requires.sweeping.fresh;
      there = omega (
        arith,
        c.if-control-cells.true,
        ap (λ (x : Control). x.position) c.control.ensures.control,
        c.cells.ensures.cells,
      );
    }

pub advance_once-requires : goal.advance_once-requires
advance_once-requires g c =
    let so = c.settle-freed.ensures in
    let there : (control_of c.settle-freed.new.self).position < cells_of c.settle-freed.new.self =
    omega (
      arith,
      c.if-control-cells.true,
      ap (λ (x : Control). x.position) c.control.ensures.control,
      c.cells.ensures.cells,
      ap (λ (x : Control). x.position) so.control,
      same_cells c.args.self.now c.settle-freed.new.self so.does.kept,
    ) in
    record {
      may = and_from _ _ (and_from _ _
          (ap (λ (x : Control). same_stage x.stage stage.Sweep) so.control
          ∙ ap (λ (s : Stage). same_stage s stage.Sweep) c.requires.stage)
          (lt-ltb _ _ there))
          (ap (λ (s : Sweeping). is_done s) so.done);
    }

pub returns-then-control-cells : goal.returns-then-control-cells
returns-then-control-cells g c =
    let a = c.args.self.now in
    let m = c.settle-freed.new.self in
    let b = c.advance_once.new.self in
    let so = c.settle-freed.ensures in
    let told = c.advance_once.ensures.told in
    let goes = does_still m b event.Advance finds.Stored refl refl told
    c.advance_once.ensures.known in
    let does = does_and (counted_in c.settle-freed.result) a m b so.does goes in
    record {
      stops = λ heard. tt;
      moved =
          record {
            steps = steps_at stage.Sweep 0 b
                (ap (λ (x : Bound _). (control_of x).stage) told
                ∙ ap (λ (x : Control). x.stage) so.control ∙ c.requires.stage)
                (record {
                  within = omega (
                    arith,
                    ap (λ (x : Bound _). (control_of x).position) told,
                    ap (λ (x : Control). x.position) so.control,
                    c.if-control-cells.true,
                    ap (λ (x : Control). x.position) c.control.ensures.control,
                    c.cells.ensures.cells,
                    same_cells a b does.kept,
                  );
                  fresh = ap (λ (x : Bound _). (part_of x).sweep) told;
                });
            told = does_as (counted_in c.settle-freed.result) c.counted_in.result a b
                c.counted_in.ensures.counted does;
            leads = λ start so_far so. underway_at stage.Sweep _ start b
                (ap (λ (x : Bound _). (control_of x).stage) told
                ∙ ap (λ (x : Control). x.stage) c.settle-freed.ensures.control
                ∙ c.requires.stage)
                (past_on so_far c.counted_in.result start a b
                (does_as (counted_in c.settle-freed.result) c.counted_in.result a b
                c.counted_in.ensures.counted does) so);
            kept = does.kept;
            freed = freed_two (counted_in c.settle-freed.result) nothing a m b so.does goes
                ∙ ap (λ (cells : List ℕ). freed_since a m ++ cells)
                (freed_nothing nothing m b refl goes)
                ∙ append-nil (freed_since a m) ∙ so.freed;
            there = so.cell;
          };
    }

pub post_once-requires : goal.post_once-requires
post_once-requires g c =
    let last : (control_of c.args.self.now).position ≡ cells_of c.args.self.now =
    omega (
      arith,
      c.if-control-cells.false,
      ap (λ (x : Control). x.position) c.control.ensures.control,
      c.cells.ensures.cells,
      c.requires.sweeping.within,
    ) in
    record {
      may = and_from _ _ (ap (λ (s : Stage). same_stage s stage.Sweep) c.requires.stage)
          (eq-eqb _ _ last);
    }

pub returns : goal.returns
returns g c =
    let a = c.args.self.now in
    let b = c.post_once.new.self in
    let ends : Ends a b = (c.post_once.ensures.told, c.post_once.ensures.known) in
    record {
      stops = λ heard. tt;
      moved =
          record {
            steps = rest_steps 0 b (ap (λ (x : Bound _). (control_of x).stage) c.post_once.ensures.told);
            told = ends;
            leads = λ start so_far so. ends_whole so_far start a b c.requires.stage ends so;
            kept = ends_kept a b ends;
            freed = ends_free a b ends;
            there = tt;
          };
    }
