-- The copies of private records: by record, whether its copy is there, and at which place of the
-- held list.
-- Source: this project's.
use Rattle.std.specs.Prelude.{ℕ, ◌≡◌, ◌≤◌, Bool, true, false, List, length, slice_index_or}
use Rattle.heap_rule.specs.Lore.{known_at}
use Rattle.heap_rule.specs.declared.known.Known.{Known}
use Rattle.heap_rule.specs.declared.known.Known.TheVariants as knows
use Rattle.cell_words.specs.Term.{Term}
use Rattle.minor_heap.specs.declared.fields.MinorField.{MinorField}
use Rattle.minor_heap.specs.declared.fields.MinorRef.{MinorRef}
use Rattle.minor_heap.specs.Nursery.{field_at}
use Rattle.minor_heap.specs.Terms.{terms_of}
use Rattle.mutator_seat.specs.Bound.{Bound}
use Rattle.promotion.specs.Copying.{AreCopied, GrownBy}
use Rattle.promotion.specs.Sharing.{SharesRecord, known_terms}
use Rattle.record_copying.specs.Table.{AreBelow}

-- each place that a record shares is in range and known as a record
abbrev pub AllShare : List Known → List (List MinorField) → Type 0
AllShare known records = (k i : ℕ) → SharesRecord known (field_at records k i)

-- what was known as a record still is, with the same term
abbrev pub StillRecords : List Known → List Known → Type 0
StillRecords known later =
    (place : ℕ) (t : Term) → known_at known place ≡ knows.Record t
    → known_at later place ≡ knows.Record t

-- the copy of the record is there
abbrev pub IsCopied : List Bool → MinorRef → Type 0
IsCopied copied r = slice_index_or copied r.number false ≡ true

-- Each copy that is there is held at its place, and denotes what its record denotes.
pub record AreCopies (known : List Known) (records : List (List MinorField)) (copied : List Bool)
    (places : List ℕ) : Type 0 where
  pub denote : AreCopied known copied (length records) places (terms_of (known_terms known) records)
  -- of a record that does not stand there is no copy
  pub within : AreBelow (length records) copied

-- a copy that was there is still there, at the same place
abbrev pub KeepCopies : List Bool → List ℕ → List Bool → List ℕ → Type 0
KeepCopies copied places later further =
    (k : ℕ) → slice_index_or copied k false ≡ true
    → (slice_index_or later k false ≡ true)
    × (slice_index_or further k 0 ≡ slice_index_or places k 0)

-- at most so many cells were claimed and became copies; nothing else that is held has changed
pub record CopiesUpTo {P : Type 0} (most : ℕ) (old new : Bound P) : Type 0 where
  pub count : ℕ
  pub few : count ≤ most
  pub grown : GrownBy count old new
