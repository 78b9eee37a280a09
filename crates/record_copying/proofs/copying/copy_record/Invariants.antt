use Rattle.std.proofs.Common.{List}
use Rattle.cell_words.specs.declared.fields.Field.{Field}
use Rattle.minor_heap.specs.Nursery.{field_at}
use Rattle.mutator_seat.specs.Bound.{Bound, IsBound, bound, held_cells}
use Rattle.mutator_seat.specs.Claims.{Claimed}
use Rattle.promotion.specs.Copying.{AreFilled, Opened, value_of}
use Rattle.record_copying.proofs.copying.copy_record.Given as goal

abbrev pub invariant-loop-i : goal.invariant-loop-i
invariant-loop-i g l =
    IsBound l.fn.heap l.seat
    × ((before : Bound _) → Claimed before l.place (bound l.fn.heap l.fn.seat)
    → (fields : List Field) × (Opened before l.place fields (bound l.fn.heap l.seat)
    × AreFilled (held_cells before) (λ i. value_of l.places (field_at l.minor.records l.r.number i))
    l.i fields))
