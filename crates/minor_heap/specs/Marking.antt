-- Marks after a field, some fields or some records were marked, and the records that are marked.
-- Source: this project's.
use Rattle.std.specs.Prelude.{ℕ, zero, suc, ◌+◌, Bool, true, false, List, [], ◌∷◌, slice_index_or}
use Rattle.std.specs.Prelude.{slice_set}
use Rattle.minor_heap.specs.declared.fields.MinorField.{MinorField}
use Rattle.minor_heap.specs.declared.fields.MinorField.TheVariants as field
use Rattle.minor_heap.specs.declared.fields.MinorRef.{MinorRef}

-- with the record that a field names
abbrev pub with_field : MinorField → List Bool → List Bool
with_field field.Null marks = marks
with_field (field.Num n) marks = marks
with_field (field.Minor r) marks = slice_set marks r.number true
with_field (field.Shared place) marks = marks

-- with the records that the first n fields name
abbrev pub with_fields : ℕ → List MinorField → List Bool → List Bool
with_fields zero fields marks = marks
with_fields (suc n) fields marks =
    with_field (slice_index_or fields n field.Null) (with_fields n fields marks)

-- with these records
abbrev pub with_refs : List MinorRef → List Bool → List Bool
with_refs [] marks = marks
with_refs (r ∷ refs) marks = with_refs refs (slice_set marks r.number true)

-- the records that are marked, the oldest first, where the marks are those from record n on
abbrev pub marked_of : ℕ → List Bool → List MinorRef
marked_of n [] = []
marked_of n (true ∷ marks) = record { number = n } ∷ marked_of (n + 1) marks
marked_of n (false ∷ marks) = marked_of (n + 1) marks
