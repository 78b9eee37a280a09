use Rattle.std.proofs.Common.{◌≡◌, ◌<◌, ℕ, false}
use Rattle.heap_census.specs.Flaws.{names_free}
use Rattle.heap_census.specs.Heap.{Heap}
use Rattle.heap_census.proofs.flaws.names_free.Given as goal

abbrev pub invariant-loop-i : goal.invariant-loop-i
invariant-loop-i g l = (h : Heap) → g.C.Cells.shows l.cells h
    → (k : ℕ) → k < l.i → names_free h (h.field l.cell k) ≡ false
