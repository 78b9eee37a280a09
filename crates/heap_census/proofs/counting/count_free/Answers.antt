use Rattle.std.proofs.Common.{◌∙◌, ap, arith, sym}
use Rattle.core_machine.specs.Words.{is_blue}
use Rattle.heap_census.specs.Heap.{is_free}
use Rattle.heap_census.proofs.Counted.{count_yes, count_no, count_all}
use Rattle.heap_census.proofs.counting.count_free.Goals as goal
use Rattle.heap_census.proofs.counting.count_free.Goals.{then-is_free, else-is_free}

pub loop-cell-preserved : goal.loop-cell-preserved
loop-cell-preserved g c =
    let i = c.loop-cell.cell in
    let so = c.loop-cell.invariant in
    elim c.if-is_free.branch [
      | then-is_free w ↦ record {
        few = omega (arith, w.count-is, so.few);
        is = λ h shows. w.count-is
            ∙ count_yes (is_free h) i c.loop-cell.count (so.is h shows)
            (sym (c.is_free.ensures ∙ ap is_blue (c.colour.ensures h shows)) ∙ w.if-is_free.true);
      }
      | else-is_free w ↦ record {
        few = omega (arith, w.count-is, so.few);
        is = λ h shows. w.count-is
            ∙ count_no (is_free h) i c.loop-cell.count (so.is h shows)
            (sym (c.is_free.ensures ∙ ap is_blue (c.colour.ensures h shows)) ∙ w.if-is_free.false);
      }
    ]

pub returns : goal.returns
returns g c = λ h shows.
    count_all (is_free h) c.loop-cell.cell (g.C.Cells.size c.args.cells.now) c.loop-cell.count
    (c.loop-cell.invariant.is h shows)
    (omega (arith, c.loop-cell.auto.cell-end, c.cells-cell-end.ensures))
    (omega (arith, c.loop-cell-test.false, c.cells-cell-end.ensures))
