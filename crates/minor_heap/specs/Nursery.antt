-- The private heap of one mutator: its records, and that each names older ones alone.
-- Source: Doligez and Leroy, POPL 1993 (a private heap for each thread, of immutable records).
-- This project's: a record is a list of fields, and the heap a list of records, the oldest first.
use Rattle.std.specs.Prelude.{ℕ, ◌+◌, ◌<◌, ◌≤◌, ◌^◌, List, [], ◌∷◌, All, length, slice_index_or}
use Rattle.minor_heap.specs.declared.fields.MinorField.{MinorField}
use Rattle.minor_heap.specs.declared.fields.MinorField.TheVariants as field
use Rattle.minor_heap.specs.declared.fields.MinorRef.{MinorRef}

pub record Nursery : Type 0 where
  -- how many records there is room for
  pub room : ℕ
  pub records : List (List MinorField)

-- field i of record k; null past the end of either
abbrev pub field_at : List (List MinorField) → ℕ → ℕ → MinorField
field_at records k i = slice_index_or (slice_index_or records k []) i field.Null

-- the record stands
abbrev pub Stands : List (List MinorField) → MinorRef → Type 0
Stands records r = r.number < length records

-- record k may have this field: it names older records alone
abbrev pub FitsRecord : ℕ → MinorField → Type 0
FitsRecord k field.Null = Unit {0}
FitsRecord k (field.Num n) = n < 2 ^ 62
FitsRecord k (field.Minor r) = r.number < k
FitsRecord k (field.Shared place) = Unit {0}

-- numbered from k on, each of the records has fields that it may have
abbrev pub IsOrdered : ℕ → List (List MinorField) → Type 0
IsOrdered k [] = Unit {0}
IsOrdered k (fields ∷ records) = All (FitsRecord k) fields × IsOrdered (k + 1) records

-- what holds of a heap's memory, with its capacity
pub record IsSound (records : List (List MinorField)) (room capacity : ℕ) : Type 0 where
  pub ordered : IsOrdered 0 records
  pub count : length records ≤ room
  pub taken : room ≤ capacity
  pub few : room < 2 ^ 32
