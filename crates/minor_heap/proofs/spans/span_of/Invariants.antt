use Rattle.std.proofs.Common.{◌<◌, ◌≤◌, All, take}
use Rattle.minor_heap.proofs.spans.span_of.Given as goal

abbrev pub invariant-loop-r : goal.invariant-loop-r
invariant-loop-r l = record {
  first : All (λ r. l.first ≤ r.number) (take l.r-index l.from);
  last : All (λ r. r.number < l.end) (take l.r-index l.from);
  end : l.end ≤ l.count;
}
