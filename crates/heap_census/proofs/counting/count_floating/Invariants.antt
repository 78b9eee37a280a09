use Rattle.std.proofs.Common.{◌≡◌, ◌≤◌, get_or}
use Rattle.heap_census.specs.Counts.{count_below}
use Rattle.heap_census.specs.Flags.{floats, no_roles}
use Rattle.heap_census.specs.Heap.{Heap, is_free}
use Rattle.heap_census.proofs.counting.count_floating.Given as goal

abbrev pub invariant-loop-cell : goal.invariant-loop-cell
invariant-loop-cell g l = record {
  few : l.count ≤ l.cell;
  is : (h : Heap) → g.C.Cells.shows l.cells h
      → l.count
      ≡ count_below (λ c. floats (is_free h c) (get_or l.marks c no_roles)) l.cell;
}
