-- References to records, each of one turn.
-- Source: this project's; a number that is good until the next move is a generation-checked index,
-- as in slot maps.
use Rattle.std.specs.Prelude.{ℕ, ◌≡◌, ◌<◌, List, length}
use Rattle.minor_heap.specs.declared.fields.MinorField.{MinorField}
use Rattle.local_references.specs.declared.references.LocalRef.{LocalRef}

-- it is of this turn, and its record stands
abbrev pub IsCurrent : ℕ → List (List MinorField) → LocalRef → Type 0
IsCurrent turn records r = (r.turn ≡ turn) × (r.number < length records)
