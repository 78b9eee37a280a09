use Rattle.std.proofs.Common.{◌≡◌, ◌++◌, string_bytes}
use Rattle.heap_census.specs.Heap.{Heap}
use Rattle.heap_census.specs.ImageText.{fields_text}
use Rattle.heap_census.proofs.Lines.{line_head}
use Rattle.heap_census.proofs.writing.line_of.Given as goal

abbrev pub invariant-loop-i : goal.invariant-loop-i
invariant-loop-i g l = (h : Heap) → g.C.Cells.shows l.cells h
    → string_bytes l.line ≡ line_head h l.cell ++ fields_text h l.cell l.i
