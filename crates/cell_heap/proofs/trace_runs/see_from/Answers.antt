use Rattle.std.proofs.Common.{◌≡◌, ◌<◌, ℕ, is_none, sym, ◌∙◌, ap, subst, arith}
use Rattle.std.proofs.lemmas.Bool.{and_from, lt-ltb}
use Rattle.std.specs.List.{list_all}
use Rattle.cell_words.specs.declared.controls.Control.{Control}
use Rattle.cell_words.specs.declared.controls.Stage.{Stage}
use Rattle.cell_words.specs.declared.controls.Stage.TheVariants as stage
use Rattle.core_machine.specs.Collector.{Collector}
use Rattle.core_machine.specs.Words.{same_stage}
use Rattle.heap_rule.specs.Shape.{Shape}
use Rattle.cell_heap.specs.Runs.{see_over}
use Rattle.cell_heap.proofs.InARow.{seen_all, seen_gray, seen_more, seen_none, still_of}
use Rattle.cell_heap.proofs.InARow.{tells_shape}
use Rattle.cell_heap.proofs.trace_runs.see_from.Goals as goal

pub loop-cell-init : goal.loop-cell-init
loop-cell-init g c = (
  seen_none c.args.first c.args.seat.now c.requires.first,
  c.requires.collector,
)

pub see_at-colour-requires : goal.see_at-colour-requires
see_at-colour-requires g c =
    let so = c.loop-cell.invariant.0 in
    let b = c.loop-cell.seat in
    let events = see_over c.args.seat.now.me.part.cursor so.found in
    let shape = tells_shape c.args.seat.now b events so.told in
    let there = subst (λ (n : ℕ). c.loop-cell.cell < n)
    (c.requires.cells ∙ sym (ap (λ (h : Shape). h.cells) shape)) c.loop-cell-test.true in
    record {
      seat = still_of c.args.heap.now c.args.seat.now b events c.requires.seat so.told;
      collector = c.loop-cell.invariant.1;
      mutators = c.requires.mutators ∙ sym (ap (λ (h : Shape). h.mutators) shape);
      can = and_from _ _
          (and_from _ _
          (and_from _ _
          (ap (λ (x : Control). same_stage x.stage stage.Trace) so.control
          ∙ ap (λ (s : Stage). same_stage s stage.Trace) c.requires.stage)
          (ap (λ (x : Collector). list_all (λ answered. answered) x.answered) so.part
          ∙ c.requires.answered))
          (ap (λ (x : Collector). is_none x.scan) so.part ∙ ap is_none c.requires.scan))
          (lt-ltb _ _ there);
    }

pub loop-cell-preserved : goal.loop-cell-preserved
loop-cell-preserved g c =
    let so = c.loop-cell.invariant.0 in
    let shape = tells_shape c.args.seat.now c.loop-cell.seat
    (see_over c.args.seat.now.me.part.cursor so.found) so.told in
    let there = subst (λ (n : ℕ). c.loop-cell.cell < n)
    (c.requires.cells ∙ sym (ap (λ (h : Shape). h.cells) shape)) c.loop-cell-test.true in (
      seen_more c.loop-cell.cell c.see_at-colour.result c.args.seat.now c.loop-cell.seat
          c.see_at-colour.new.seat so there (sym c.is_gray.ensures.gray ∙ c.if-is_gray.false)
          c.see_at-colour.ensures.told c.see_at-colour.ensures.known,
      c.see_at-colour.ensures.collector,
    )

pub returns-then-is_gray : goal.returns-then-is_gray
returns-then-is_gray g c =
    let so = c.loop-cell.invariant.0 in
    let shape = tells_shape c.args.seat.now c.loop-cell.seat
    (see_over c.args.seat.now.me.part.cursor so.found) so.told in
    let within = subst (λ (n : ℕ). c.loop-cell.cell < n) c.requires.cells
    c.loop-cell-test.true in
    let there = subst (λ (n : ℕ). c.loop-cell.cell < n)
    (sym (ap (λ (h : Shape). h.cells) shape)) within in
    record {
      seen = seen_gray c.loop-cell.cell c.see_at-colour.result c.args.seat.now c.loop-cell.seat
          c.see_at-colour.new.seat so there within
          (sym c.is_gray.ensures.gray ∙ c.if-is_gray.true) c.see_at-colour.ensures.told
          c.see_at-colour.ensures.known;
      collector = c.see_at-colour.ensures.collector;
    }

pub returns : goal.returns
returns g c =
    let last : c.loop-cell.cell ≡ c.args.cells =
    omega (arith, c.loop-cell-test.false, c.loop-cell.auto.cell-end, c.requires.within) in
    record {
      seen = seen_all c.loop-cell.cell c.args.seat.now c.loop-cell.seat
          c.loop-cell.invariant.0 (last ∙ c.requires.cells);
      collector = c.loop-cell.invariant.1;
    }
