-- A copy is of no shared place of which its record is not.
use Rattle.std.proofs.Common.{◌≡◌, ◌++◌, ◌∷◌, ◌⊎◌, ⊎_elim, inl, inr, ℕ, zero, suc, List, []}
use Rattle.std.specs.Prelude.{slice_index_or}
use Rattle.minor_heap.specs.declared.fields.MinorField.{MinorField}
use Rattle.minor_heap.specs.declared.fields.MinorField.TheVariants as field
use Rattle.minor_heap.specs.Nursery.{field_at}
use Rattle.aged_nursery.specs.Copies.{moved_field, moved_record}
use Rattle.aged_nursery.specs.Survivors.{NameNoMore, NamesPlace}

null_is_no_place : (place : ℕ) → field.Null ≡ field.Shared place → ⊥
null_is_no_place place is = absurd cc

place_was : (numbers : List ℕ) (f : MinorField) (place : ℕ)
    → moved_field numbers f ≡ field.Shared place → f ≡ field.Shared place
place_was numbers field.Null place is = is
place_was numbers (field.Num n) place is = is
place_was numbers (field.Minor r) place is = absurd cc
place_was numbers (field.Shared q) place is = is

moved_place : (numbers : List ℕ) (fields : List MinorField) (i place : ℕ)
    → slice_index_or (moved_record numbers fields) i field.Null ≡ field.Shared place
    → slice_index_or fields i field.Null ≡ field.Shared place
moved_place numbers fields zero place is =
    place_was numbers (slice_index_or fields 0 field.Null) place is
moved_place numbers fields (suc zero) place is =
    place_was numbers (slice_index_or fields 1 field.Null) place is
moved_place numbers fields (suc (suc zero)) place is =
    place_was numbers (slice_index_or fields 2 field.Null) place is
moved_place numbers fields (suc (suc (suc zero))) place is =
    place_was numbers (slice_index_or fields 3 field.Null) place is
moved_place numbers fields (suc (suc (suc (suc zero)))) place is =
    place_was numbers (slice_index_or fields 4 field.Null) place is
moved_place numbers fields (suc (suc (suc (suc (suc i))))) place is =
    absurd (null_is_no_place place is)

-- a field of one more record is a field of another, or of this one
last_or : (new : List (List MinorField)) (fields : List MinorField) (k i place : ℕ)
    → field_at (new ++ fields ∷ []) k i ≡ field.Shared place
    → NamesPlace new place ⊎ (slice_index_or fields i field.Null ≡ field.Shared place)
last_or [] fields zero i place is = inr is
last_or [] fields (suc k) i place is = absurd (null_is_no_place place is)
last_or (other ∷ new) fields zero i place is =
    inl (record { number = 0; index = i; is = is })
last_or (other ∷ new) fields (suc k) i place is =
    ⊎_elim
    (λ (before : NamesPlace new place). inl (record {
      number = suc before.number;
      index = before.index;
      is = before.is;
    }))
    (λ here. inr here) (last_or new fields k i place is)

pub named_more : (old new : List (List MinorField)) (numbers : List ℕ) (n : ℕ) → NameNoMore old new
    → NameNoMore old (new ++ moved_record numbers (slice_index_or old n []) ∷ [])
named_more old new numbers n so place names =
    let fields = slice_index_or old n [] in
    ⊎_elim (λ (before : NamesPlace new place). so place before)
    (λ here. record {
      number = n;
      index = names.index;
      is = moved_place numbers fields names.index place here;
    })
    (last_or new (moved_record numbers fields) names.number names.index place names.is)
