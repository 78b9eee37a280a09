use Rattle.heap_census.specs.Heap.{Heap}
use Rattle.heap_census.specs.Search.{GrowsTo}
use Rattle.heap_census.proofs.Found.{NamedSoFar}
use Rattle.heap_census.proofs.finding.add_named.Given as goal

abbrev pub invariant-loop-i : goal.invariant-loop-i
invariant-loop-i g l = record {
  grows : GrowsTo l.initial.found l.found;
  named : (h : Heap) → g.C.Cells.shows l.cells h
      → NamedSoFar h l.next.role l.next.cell l.i l.initial.found l.found;
}
