use Rattle.std.proofs.Common.{◌∙◌, ap, arith, string_bytes, sym}
use Rattle.core_machine.specs.Words.{is_blue}
use Rattle.heap_census.proofs.Lines.{text_first, lines_more, lines_pass, text_done}
use Rattle.heap_census.proofs.writing.text_of.Goals as goal
use Rattle.heap_census.proofs.writing.text_of.Goals.{else-not-is_free}
use Rattle.heap_census.proofs.writing.text_of.Goals.{then-not-is_free+in_ok-line+in_ok-extend_from_slice-2}

pub loop-cell-init : goal.loop-cell-init
loop-cell-init g c = λ h shows.
    let fit = g.met.C.Cells.fits c.args.cells.now h shows in
    text_first h c.cells-count.result c.new-text.result.items c.as_bytes.result.now
    (string_bytes c.in_ok-head.head) c.extend_from_slice.new.self.items
    c.new-text.ensures.items c.as_bytes.ensures.value c.in_ok-head.ensures.ok
    (c.cells-count.ensures ∙ sym fit.cells_are) c.in_ok-extend_from_slice.ensures.items

pub loop-cell-preserved : goal.loop-cell-preserved
loop-cell-preserved g c = λ h shows.
    let n = c.loop-cell.cell in
    let text = c.loop-cell.text.items in
    let colour = c.is_free.ensures ∙ ap is_blue (c.colour.ensures h shows) in
    elim c.if-not-is_free.branch [
      | then-not-is_free+in_ok-line+in_ok-extend_from_slice-2 w ↦
          lines_more h n text c.if-not-is_free.text.items w.as_bytes-then-not-is_free.result.now
          (string_bytes w.in_ok-line.line) (c.loop-cell.invariant h shows)
          (sym colour ∙ w.if-not-is_free.true) w.as_bytes-then-not-is_free.ensures.value
          (w.in_ok-line.ensures h shows)
          (ap (λ t. t.items) w.text-is ∙ w.in_ok-extend_from_slice-2.ensures.items)
      | else-not-is_free w ↦ ap (λ t. t.items) w.text-is
          ∙ lines_pass h n text (c.loop-cell.invariant h shows)
          (sym colour ∙ w.if-not-is_free.false)
    ]

pub returns : goal.returns
returns g c = λ h shows.
    let fit = g.met.C.Cells.fits c.args.cells.now h shows in
    text_done h c.loop-cell.cell c.loop-cell.text.items c.extend_from_slice-2.new.self.items
    (c.loop-cell.invariant h shows)
    (omega (
      arith,
      c.loop-cell-test.false,
      c.loop-cell.auto.cell-end,
      c.cells-count.ensures,
      fit.cells_are,
    ))
    c.in_ok-extend_from_slice-3.ensures.items
