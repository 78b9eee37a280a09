-- Which records are reached: the roots, and whatever a record that is reached names.
-- Source: this project's.
use Rattle.std.specs.Prelude.{ℕ, ◌≡◌, ◌<◌, ◌↔◌, Bool, true, false, List, slice_index_or}
use Rattle.std.specs.List.{AllPairs, Contains}
use Rattle.minor_heap.specs.declared.fields.MinorField.{MinorField}
use Rattle.minor_heap.specs.declared.fields.MinorField.TheVariants as field
use Rattle.minor_heap.specs.declared.fields.MinorRef.{MinorRef}
use Rattle.minor_heap.specs.Nursery.{field_at}

-- a chain of fields leads from a root to the record
pub data Reaches (records : List (List MinorField)) (IsRoot : MinorRef → Type 0) : MinorRef
    → Type 0 where
  root : {r : MinorRef} → IsRoot r → Reaches records IsRoot r
  named : {r older : MinorRef} (i : ℕ) → i < 5 → Reaches records IsRoot r
      → field_at records r.number i ≡ field.Minor older → Reaches records IsRoot older

-- the record is marked
abbrev pub IsMarked : List Bool → MinorRef → Type 0
IsMarked marks r = slice_index_or marks r.number false ≡ true

-- each record that these reach, once, the oldest first
pub record AreReached (records : List (List MinorField)) (from found : List MinorRef) : Type 0 where
  pub reached : (r : MinorRef) → Contains found r ↔ Reaches records (Contains from) r
  pub rising : AllPairs (λ older r. older.number < r.number) found
