-- The term of a record: the five terms of its fields, where an older record stands for its term and
-- a shared place for what the list of shared terms has there.
-- Source: this project's. Terms themselves are of cell_words.
use Rattle.std.specs.Prelude.{ℕ, List, [], ◌∷◌, ◌++◌, slice_index_or}
use Rattle.cell_words.specs.Term.{Term, null, num, five}
use Rattle.minor_heap.specs.declared.fields.MinorField.{MinorField}
use Rattle.minor_heap.specs.declared.fields.MinorField.TheVariants as field
use Rattle.minor_heap.specs.declared.fields.MinorRef.{MinorRef}

-- the term of a field, from the terms of the shared places and of the records
abbrev pub field_term : List Term → List Term → MinorField → Term
field_term shared older field.Null = null
field_term shared older (field.Num n) = num n
field_term shared older (field.Minor r) = slice_index_or older r.number null
field_term shared older (field.Shared place) = slice_index_or shared place null

-- and of a record
abbrev pub record_term : List Term → List Term → List MinorField → Term
record_term shared older fields =
    let term : ℕ → Term = λ i. field_term shared older (slice_index_or fields i field.Null) in
    five (term 0) (term 1) (term 2) (term 3) (term 4)

-- the terms of all records, the oldest first, after those of older ones
abbrev pub terms_after : List Term → List Term → List (List MinorField) → List Term
terms_after shared older [] = older
terms_after shared older (fields ∷ records) =
    terms_after shared (older ++ record_term shared older fields ∷ []) records

abbrev pub terms_of : List Term → List (List MinorField) → List Term
terms_of shared records = terms_after shared [] records

abbrev pub term_of : List Term → List (List MinorField) → MinorRef → Term
term_of shared records r = slice_index_or (terms_of shared records) r.number null
