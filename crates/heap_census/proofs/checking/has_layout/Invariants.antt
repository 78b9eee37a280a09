use Rattle.std.proofs.Common.{◌≡◌, ◌<◌, ℕ, true}
use Rattle.heap_census.specs.Heap.{Heap}
use Rattle.heap_census.specs.Layouts.{fits, part_of}
use Rattle.heap_census.proofs.checking.has_layout.Given as goal

abbrev pub invariant-loop-i : goal.invariant-loop-i
invariant-loop-i g l = (h : Heap) → g.C.Cells.shows l.cells h
    → (k : ℕ) → k < l.i → fits (part_of l.fn.role k) (h.field l.cell k) ≡ true
