use Rattle.std.proofs.Common.{◌∙◌, ap, arith, get_or, sym}
use Rattle.core_machine.specs.Words.{is_blue}
use Rattle.heap_census.specs.Flags.{floats, no_roles}
use Rattle.heap_census.specs.Heap.{is_free}
use Rattle.heap_census.proofs.Counted.{count_yes, count_no, count_all}
use Rattle.heap_census.proofs.counting.count_floating.Goals as goal
use Rattle.heap_census.proofs.counting.count_floating.Goals.{then-is_floating, else-is_floating}

pub loop-cell-preserved : goal.loop-cell-preserved
loop-cell-preserved g c =
    let i = c.loop-cell.cell in
    let so = c.loop-cell.invariant in
    let marks = c.args.marks.now in
    let mark = get_or marks i no_roles in
    elim c.if-is_floating.branch [
      | then-is_floating w ↦ record {
        few = omega (arith, w.count-is, so.few);
        is = λ h shows. w.count-is
            ∙ count_yes (λ n. floats (is_free h n) (get_or marks n no_roles)) i c.loop-cell.count
            (so.is h shows)
            (sym (c.is_floating.ensures
            ∙ ap (λ k. floats (is_blue k) mark) (c.colour.ensures h shows))
            ∙ w.if-is_floating.true);
      }
      | else-is_floating w ↦ record {
        few = omega (arith, w.count-is, so.few);
        is = λ h shows. w.count-is
            ∙ count_no (λ n. floats (is_free h n) (get_or marks n no_roles)) i c.loop-cell.count
            (so.is h shows)
            (sym (c.is_floating.ensures
            ∙ ap (λ k. floats (is_blue k) mark) (c.colour.ensures h shows))
            ∙ w.if-is_floating.false);
      }
    ]

pub returns : goal.returns
returns g c = λ h shows.
    count_all (λ n. floats (is_free h n) (get_or c.args.marks.now n no_roles)) c.loop-cell.cell
    (g.C.Cells.size c.args.cells.now) c.loop-cell.count
    (c.loop-cell.invariant.is h shows)
    (omega (arith, c.loop-cell.auto.cell-end, c.cells-cell-end.ensures))
    (omega (arith, c.loop-cell-test.false, c.cells-cell-end.ensures))
