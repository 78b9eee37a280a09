-- Where marks lie.
-- Source: this project's.
use Rattle.std.specs.Prelude.{ℕ, ◌≡◌, ◌<◌, ◌≤◌, Bool, false, List, slice_index_or}
use Rattle.minor_heap.specs.declared.fields.MinorRef.{MinorRef}
use Rattle.minor_heap.specs.declared.spans.RecordSpan.{RecordSpan}
use Rattle.minor_heap.specs.Reaches.{IsMarked}

abbrev pub NoneMarked : List Bool → Type 0
NoneMarked marks = (k : ℕ) → slice_index_or marks k false ≡ false

-- no record below this number is marked
abbrev pub AreFrom : ℕ → List Bool → Type 0
AreFrom first marks = (r : MinorRef) → IsMarked marks r → first ≤ r.number

-- and none outside these numbers
abbrev pub AreWithin : RecordSpan → List Bool → Type 0
AreWithin span marks =
    (r : MinorRef) → IsMarked marks r → (span.first ≤ r.number) × (r.number < span.end)
