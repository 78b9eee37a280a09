use Rattle.std.proofs.Common.{◌≡◌, ◌≤◌}
use Rattle.heap_census.specs.Counts.{count_below}
use Rattle.heap_census.specs.Heap.{Heap, is_free}
use Rattle.heap_census.proofs.counting.count_free.Given as goal

abbrev pub invariant-loop-cell : goal.invariant-loop-cell
invariant-loop-cell g l = record {
  few : l.count ≤ l.cell;
  is : (h : Heap) → g.C.Cells.shows l.cells h → l.count ≡ count_below (is_free h) l.cell;
}
