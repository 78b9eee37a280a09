use Rattle.std.proofs.Common.{List, length}
use Rattle.cell_words.specs.declared.fields.Field.{Field}
use Rattle.minor_heap.specs.Nursery.{field_at}
use Rattle.mutator_seat.specs.Bound.{held_cells}
use Rattle.promotion.specs.Copying.{AreFilled, Opened, value_of}
use Rattle.promotion.specs.Hinting.{IsCopy}
use Rattle.promotion.specs.Linking.{AreCopying}
use Rattle.promotion.specs.Promoting.{Adds}
use Rattle.promotion.proofs.copying.copy_record.Given as goal

abbrev pub invariant-loop-i : goal.invariant-loop-i
invariant-loop-i g l =
    (fields : List Field) × (Opened l.fn.m l.place fields l.m
    × AreFilled (held_cells l.fn.m) (λ i. value_of l.places (field_at l.minor.records l.r.number i))
    l.i fields
    × Adds (AreCopying (length l.fn.m.seat.me.own.held)) l.fn.m l.m
    × Adds (IsCopy l.fn.m.seat.me.number l.fn.m.seat.me.shape.cells l.fn.hint) l.fn.m l.m)
