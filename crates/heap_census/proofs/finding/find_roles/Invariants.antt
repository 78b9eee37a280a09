use Rattle.std.proofs.Common.{◌≡◌, length}
use Rattle.heap_census.specs.Heap.{Heap}
use Rattle.heap_census.specs.Search.{IsSearch, WaitsFound, left_to_do}
use Rattle.heap_census.proofs.finding.find_roles.Given as goal

abbrev pub invariant-loop-next : goal.invariant-loop-next
invariant-loop-next g l = record {
  size : length l.found.marks ≡ g.C.Cells.size l.cells;
  found : WaitsFound l.found;
  is : (h : Heap) → g.C.Cells.shows l.cells h → IsSearch h l.found;
}

abbrev pub decreases-loop-next : goal.decreases-loop-next
decreases-loop-next g l = left_to_do l.found
