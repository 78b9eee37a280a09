use Rattle.std.proofs.Common.{◌≡◌, ◌++◌}
use Rattle.heap_census.specs.Heap.{Heap}
use Rattle.heap_census.specs.ImageText.{cell_lines}
use Rattle.heap_census.proofs.Lines.{text_head}
use Rattle.heap_census.proofs.writing.text_of.Given as goal

abbrev pub invariant-loop-cell : goal.invariant-loop-cell
invariant-loop-cell g l = (h : Heap) → g.C.Cells.shows l.cells h
    → l.text.items ≡ text_head h ++ cell_lines h l.cell
