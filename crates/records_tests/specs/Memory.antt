-- A private heap as a pool of records.
-- Source: this project's.
use Rattle.std.specs.Prelude.{ℕ, ◌≤◌, ◌-◌, [], length}
use Rattle.minor_heap.specs.declared.fields.MinorField.{MinorField}
use Rattle.minor_heap.specs.declared.fields.MinorField.TheVariants as field
use Rattle.minor_heap.specs.declared.fields.MinorRef.{MinorRef}
use Rattle.minor_heap.specs.Nursery.{Stands}
use Rattle.minor_heap.specs.Terms.{term_of}
use Rattle.records_tests.specs.declared.memory.MemoryPool.{MemoryPool}
use Rattle.doc_records.specs.declared.pool.Part.{Part}
use Rattle.doc_records.specs.declared.pool.Part.TheVariants as parts
use Rattle.doc_records.specs.Pool.{Shown}

abbrev pub shown : MemoryPool → Shown MinorRef ℕ
shown pool = record {
  term = term_of [] pool.heap.records;
  stands = λ places r. Stands pool.heap.records r;
  held = 1;
  room = 10_000;
  says = λ places count. count ≤ length pool.heap.records;
  records = pool.heap.room - length pool.heap.records;
  marks = [];
}

abbrev pub field_of : Part MinorRef → MinorField
field_of parts.Null = field.Null
field_of (parts.Num n) = field.Num n
field_of (parts.Record r) = field.Minor r
