-- A call that keeps what a mutator holds and knows leaves it in.
use Rattle.std.proofs.Common.{◌∙◌}
use Rattle.collector_tests.specs.Away.{IsIn}
use Rattle.heap_rule.specs.declared.keeping.NoRule.{NoRule}
use Rattle.heap_table.specs.Seats.{HeapId}
use Rattle.mutator_seat.specs.Bound.{Bound}
use Rattle.mutator_seat.specs.Stretches.{Kept}

pub still_in : (heap : HeapId) (old new : Bound NoRule) → Kept old new → IsIn heap old
    → IsIn heap new
still_in heap old new kept here = record {
  heap_is = kept.heap ∙ here.heap_is;
  seat_is = (kept.table ∙ here.seat_is.0, kept.shape ∙ here.seat_is.1);
  inside = kept.inside ∙ here.inside;
}
