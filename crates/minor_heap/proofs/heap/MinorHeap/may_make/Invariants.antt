use Rattle.std.proofs.Common.{◌<◌, ℕ, length}
use Rattle.std.specs.Prelude.{slice_index_or}
use Rattle.minor_heap.specs.declared.record.FieldKind.TheVariants as kind
use Rattle.minor_heap.specs.Record.{IsWithin, field_of}
use Rattle.minor_heap.proofs.heap.MinorHeap.may_make.Given as goal

-- those so far are within
abbrev pub invariant-loop-i : goal.invariant-loop-i
invariant-loop-i l =
    (j : ℕ) → j < l.i → IsWithin (length l.self.records) l.places
    (field_of (slice_index_or l.kinds j kind.Null) (slice_index_or l.words j 0))
