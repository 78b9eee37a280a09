use Rattle.std.proofs.Common.{◌<◌, ◌≤◌, ℕ, All}
use Rattle.std.specs.Prelude.{slice_index_or}
use Rattle.minor_heap.specs.declared.record.FieldKind.TheVariants as kind
use Rattle.minor_heap.specs.Record.{field_of, fields_of}
use Rattle.local_records.specs.Local.{IsFieldBelow}
use Rattle.local_records.proofs.making.name_places.Given as goal

abbrev pub invariant-loop-i : goal.invariant-loop-i
invariant-loop-i l = record {
  more : l.fn.named ≤ l.named;
  below : (j : ℕ) → j < l.i
      → IsFieldBelow l.named (field_of (slice_index_or l.kinds j kind.Null)
      (slice_index_or l.words j 0));
  least : (n : ℕ) → l.fn.named ≤ n → All (IsFieldBelow n) (fields_of l.kinds l.words)
      → l.named ≤ n;
}
