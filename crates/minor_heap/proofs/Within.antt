-- Fields that are tested one after the other.
use Rattle.std.proofs.Common.{◌≡◌, ◌<◌, ◌≤◌, ◌+◌, ◌⊎◌, ⊎_elim, ℕ, zero, suc, List, [], ◌∷◌, length}
use Rattle.std.proofs.Common.{refl, sym, subst, arith}
use Rattle.std.specs.Prelude.{All, slice_index_or}
use Rattle.minor_heap.specs.declared.fields.MinorField.{MinorField}
use Rattle.minor_heap.specs.declared.fields.MinorField.TheVariants as field
use Rattle.minor_heap.specs.declared.record.FieldKind.{FieldKind}
use Rattle.minor_heap.specs.declared.record.FieldKind.TheVariants as kind
use Rattle.minor_heap.specs.Nursery.{FitsRecord}
use Rattle.minor_heap.specs.Record.{IsWithin, field_of, fields_of}

-- the field at a place is that of the kind and the word there
field_among : (ks : List FieldKind) (ws : List ℕ) (i : ℕ) (d : MinorField) → i < length ks
    → i < length ws
    → slice_index_or (fields_of ks ws) i d
    ≡ field_of (slice_index_or ks i kind.Null) (slice_index_or ws i 0)
field_among [] ws i d k w = absurd (omega (arith, k))
field_among (k ∷ ks) [] i d a b = absurd (omega (arith, b))
field_among (k ∷ ks) (w ∷ ws) zero d a b = refl
field_among (k ∷ ks) (w ∷ ws) (suc i) d a b =
    field_among ks ws i d (omega (arith, a)) (omega (arith, b))

fields_many : (ks : List FieldKind) (ws : List ℕ) → length (fields_of ks ws) ≤ length ks
fields_many [] ws = omega arith
fields_many (k ∷ ks) [] = omega arith
fields_many (k ∷ ks) (w ∷ ws) = let more = fields_many ks ws in omega (arith, more)

many_fields : (ks : List FieldKind) (ws : List ℕ) → length ks ≡ length ws
    → length (fields_of ks ws) ≡ length ks
many_fields [] ws same = refl
many_fields (k ∷ ks) [] same = absurd (omega (arith, same))
many_fields (k ∷ ks) (w ∷ ws) same =
    let more = many_fields ks ws (omega (arith, same)) in omega (arith, more)

up_to : (j i : ℕ) → j < i + 1 → (j < i) ⊎ (j ≡ i)
up_to j i lt = search (arith, lt)

within_fits : (n places : ℕ) (f : MinorField) → IsWithin n places f → FitsRecord n f
within_fits n places field.Null is = tt
within_fits n places (field.Num number) is = is
within_fits n places (field.Minor r) is = is
within_fits n places (field.Shared place) is = tt

module _ (n places : ℕ) (ks : List FieldKind) (ws : List ℕ) where
  abbrev pub At : ℕ → Type 0
  At j = IsWithin n places (field_of (slice_index_or ks j kind.Null) (slice_index_or ws j 0))

  pub within_more : (i : ℕ) → At i → ((j : ℕ) → j < i → At j) → (j : ℕ) → j < i + 1 → At j
  within_more i here below j lt =
      ⊎_elim (λ (less : j < i). below j less)
      (λ (same : j ≡ i). subst (λ (k : ℕ). At k) (sym same) here) (up_to j i lt)

  pub within_all : (i : ℕ) → length ks ≤ i → length ks ≡ length ws → ((j : ℕ) → j < i → At j)
      → All (IsWithin n places) (fields_of ks ws)
  within_all i all same below j d lt =
      let many = fields_many ks ws in
      let there : j < length ks = omega (arith, lt, many) in
      subst (λ (f : MinorField). IsWithin n places f)
      (sym (field_among ks ws j d there (omega (arith, there, same))))
      (below j (omega (arith, there, all)))

  pub within_at : (i : ℕ) → i < length ks → length ks ≡ length ws
      → All (IsWithin n places) (fields_of ks ws) → At i
  within_at i lt same all =
      let many = many_fields ks ws same in
      subst (λ (f : MinorField). IsWithin n places f)
      (field_among ks ws i field.Null lt (omega (arith, lt, same)))
      (all i field.Null (omega (arith, lt, many)))

  pub within_fit : All (IsWithin n places) (fields_of ks ws) → All (FitsRecord n) (fields_of ks ws)
  within_fit all = λ j d lt. within_fits n places (slice_index_or (fields_of ks ws) j d) (all j d lt)
