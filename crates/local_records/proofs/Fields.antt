-- What is so of each field, by kinds and words.
use Rattle.std.proofs.Common.{◌≡◌, ◌<◌, ◌≤◌, ◌+◌, ◌⊎◌, ⊎_elim, ℕ, zero, suc, List, [], ◌∷◌, All}
use Rattle.std.proofs.Common.{length}
use Rattle.std.proofs.Common.{sym, subst, arith}
use Rattle.std.specs.Prelude.{slice_index_or}
use Rattle.std.proofs.lemmas.List.Elements.{All-cons, All-nil}
use Rattle.minor_heap.specs.declared.fields.MinorField.{MinorField}
use Rattle.minor_heap.specs.declared.fields.MinorField.TheVariants as field
use Rattle.minor_heap.specs.declared.record.FieldKind.{FieldKind}
use Rattle.minor_heap.specs.declared.record.FieldKind.TheVariants as kind
use Rattle.minor_heap.specs.Record.{IsWithin, field_of, fields_of}
use Rattle.local_records.specs.Local.{IsFieldBelow}

module _ (Q : MinorField → Type 0) where
  pub all_of : (ks : List FieldKind) (ws : List ℕ) → length ks ≡ length ws
      → ((j : ℕ) → j < length ks
      → Q (field_of (slice_index_or ks j kind.Null) (slice_index_or ws j 0)))
      → All Q (fields_of ks ws)
  all_of [] ws same at = All-nil Q
  all_of (k ∷ ks) [] same at = absurd (omega (arith, same))
  all_of (k ∷ ks) (w ∷ ws) same at =
      All-cons Q (field_of k w) (fields_of ks ws) (at 0 (omega arith))
      (all_of ks ws (omega (arith, same)) (λ j lt. at (suc j) (omega (arith, lt))))

  pub each_of : (ks : List FieldKind) (ws : List ℕ) → length ks ≡ length ws
      → All Q (fields_of ks ws) → (i : ℕ) → i < length ks
      → Q (field_of (slice_index_or ks i kind.Null) (slice_index_or ws i 0))
  each_of [] ws same all i lt = absurd (omega (arith, lt))
  each_of (k ∷ ks) [] same all i lt = absurd (omega (arith, same))
  each_of (k ∷ ks) (w ∷ ws) same all zero lt = all 0 (field_of k w) (omega arith)
  each_of (k ∷ ks) (w ∷ ws) same all (suc i) lt =
      each_of ks ws (omega (arith, same)) (λ j d less. all (suc j) d (omega (arith, less))) i
      (omega (arith, lt))

pub field_wider : (n m : ℕ) (f : MinorField) → n ≤ m → IsFieldBelow n f → IsFieldBelow m f
field_wider n m field.Null le below = tt
field_wider n m (field.Num value) le below = tt
field_wider n m (field.Minor r) le below = tt
field_wider n m (field.Shared place) le below = omega (arith, le, below)

within_below : (records n m : ℕ) (f : MinorField) → n ≤ m → IsWithin records n f → IsFieldBelow m f
within_below records n m field.Null le within = tt
within_below records n m (field.Num value) le within = tt
within_below records n m (field.Minor r) le within = tt
within_below records n m (field.Shared place) le within = omega (arith, le, within)

pub fields_below : (records n m : ℕ) (fields : List MinorField) → n ≤ m
    → All (IsWithin records n) fields → All (IsFieldBelow m) fields
fields_below records n m fields le within i d lt =
    within_below records n m (slice_index_or fields i d) le (within i d lt)

before_or : (j i : ℕ) → j < i + 1 → (j < i) ⊎ (j ≡ i)
before_or j i lt = search (arith, lt)

-- one more field is below
pub below_next : (ks : List FieldKind) (ws : List ℕ) (i last next : ℕ) → last ≤ next
    → ((j : ℕ) → j < i
    → IsFieldBelow last (field_of (slice_index_or ks j kind.Null) (slice_index_or ws j 0)))
    → IsFieldBelow next (field_of (slice_index_or ks i kind.Null) (slice_index_or ws i 0))
    → (j : ℕ) → j < i + 1
    → IsFieldBelow next (field_of (slice_index_or ks j kind.Null) (slice_index_or ws j 0))
below_next ks ws i last next le below here j lt = ⊎_elim
    (λ (less : j < i). field_wider last next
    (field_of (slice_index_or ks j kind.Null) (slice_index_or ws j 0)) le (below j less))
    (λ (same : j ≡ i). subst
    (λ (k : ℕ). IsFieldBelow next
    (field_of (slice_index_or ks k kind.Null) (slice_index_or ws k 0)))
    (sym same) here)
    (before_or j i lt)
