use Rattle.std.proofs.Common.{◌≡◌, ◌<◌, ℕ, sym, ◌∙◌, ap, subst, arith}
use Rattle.std.proofs.lemmas.Bool.{and_from, lt-ltb}
use Rattle.cell_words.specs.declared.controls.Control.{Control}
use Rattle.cell_words.specs.declared.controls.Stage.{Stage}
use Rattle.cell_words.specs.declared.controls.Stage.TheVariants as stage
use Rattle.core_machine.specs.Collector.{Collector}
use Rattle.core_machine.specs.Words.{same_stage}
use Rattle.heap_rule.specs.Shape.{Shape}
use Rattle.cell_heap.specs.Runs.{clear_over}
use Rattle.cell_heap.proofs.InARow.{cleared_all, cleared_more, cleared_none, still_of, tells_shape}
use Rattle.cell_heap.proofs.trace_runs.clear_from.Goals as goal

pub loop-cell-init : goal.loop-cell-init
loop-cell-init g c = (
  cleared_none c.args.first c.args.seat.now c.requires.first,
  c.requires.collector,
)

pub clear_at-requires : goal.clear_at-requires
clear_at-requires g c =
    let so = c.loop-cell.invariant.0 in
    let b = c.loop-cell.seat in
    let shape = tells_shape c.args.seat.now b (clear_over so.found) so.told in
    let cursor = sym (ap (λ (x : Collector). x.cursor) so.part) in
    let there = subst (λ (x : ℕ × ℕ). x.0 < x.1)
    (λ j. (cursor j, (c.requires.cells ∙ sym (ap (λ (h : Shape). h.cells) shape)) j))
    c.loop-cell-test.true in
    record {
      seat = still_of c.args.heap.now c.args.seat.now b (clear_over so.found) c.requires.seat
          so.told;
      collector = c.loop-cell.invariant.1;
      mutators = c.requires.mutators ∙ sym (ap (λ (h : Shape). h.mutators) shape);
      cell = cursor;
      can = and_from _ _
          (ap (λ (x : Control). same_stage x.stage stage.Clear) so.control
          ∙ ap (λ (s : Stage). same_stage s stage.Clear) c.requires.stage)
          (lt-ltb _ _ there);
    }

pub loop-cell-preserved : goal.loop-cell-preserved
loop-cell-preserved g c = (
  cleared_more c.loop-cell.cell c.args.seat.now c.loop-cell.seat c.clear_at.new.seat
      c.loop-cell.invariant.0 c.clear_at.ensures.told,
  c.clear_at.ensures.collector,
)

pub returns : goal.returns
returns g c =
    let last : c.loop-cell.cell ≡ c.args.cells =
    omega (arith, c.loop-cell-test.false, c.loop-cell.auto.cell-end, c.requires.within) in
    record {
      cleared = cleared_all c.loop-cell.cell c.args.seat.now c.loop-cell.seat
          c.loop-cell.invariant.0 (last ∙ c.requires.cells);
      collector = c.loop-cell.invariant.1;
    }
