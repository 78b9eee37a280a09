-- Five fields and their kinds and words.
use Rattle.std.proofs.Common.{◌≡◌, ℕ, zero, suc, ◌<◌, List, [], ◌∷◌, length, refl, ◌∙◌, arith}
use Rattle.std.specs.Prelude.{All, ◌^◌, slice_index_or}
use Rattle.minor_heap.specs.declared.fields.MinorField.{MinorField}
use Rattle.minor_heap.specs.declared.fields.MinorField.TheVariants as field
use Rattle.minor_heap.specs.declared.record.FieldKind.{FieldKind}
use Rattle.minor_heap.specs.declared.record.FieldKind.TheVariants as kind
use Rattle.minor_heap.specs.Nursery.{FitsRecord}
use Rattle.minor_heap.specs.Record.{AreNumbered, IsNumbered, field_of, fields_of}
use Rattle.minor_heap.specs.Record.{kind_of, word_of}

pub unpacks : (f : MinorField) → field_of (kind_of f) (word_of f) ≡ f
unpacks field.Null = refl
unpacks (field.Num n) = refl
unpacks (field.Minor r) = refl
unpacks (field.Shared place) = refl

-- a list of five is its elements
pub five_fields : (fs : List MinorField) → length fs ≡ 5
    → slice_index_or fs 0 field.Null ∷ slice_index_or fs 1 field.Null ∷ slice_index_or fs 2
    field.Null
    ∷ slice_index_or fs 3 field.Null ∷ slice_index_or fs 4 field.Null ∷ [] ≡ fs
five_fields [] e = absurd (omega (arith, e))
five_fields (a ∷ []) e = absurd (omega (arith, e))
five_fields (a ∷ b ∷ []) e = absurd (omega (arith, e))
five_fields (a ∷ b ∷ c ∷ []) e = absurd (omega (arith, e))
five_fields (a ∷ b ∷ c ∷ d ∷ []) e = absurd (omega (arith, e))
five_fields (a ∷ b ∷ c ∷ d ∷ g ∷ []) e = refl
five_fields (a ∷ b ∷ c ∷ d ∷ g ∷ h ∷ rest) e = absurd (omega (arith, e))

pub packed : (k : FieldKind) (w : ℕ) (f : MinorField) → k ≡ kind_of f → w ≡ word_of f → field_of k w
    ≡ f
packed k w f kinds words = (λ i. field_of (kinds i) (words i)) ∙ unpacks f

-- the field at a place is that of the kind and the word there
pub field_there : (ks : List FieldKind) (ws : List ℕ) (i : ℕ) → i < length ks → i < length ws
    → slice_index_or (fields_of ks ws) i field.Null
    ≡ field_of (slice_index_or ks i kind.Null) (slice_index_or ws i 0)
field_there [] ws i k w = absurd (omega (arith, k))
field_there (k ∷ ks) [] i a b = absurd (omega (arith, b))
field_there (k ∷ ks) (w ∷ ws) zero a b = refl
field_there (k ∷ ks) (w ∷ ws) (suc i) a b =
    field_there ks ws i (omega (arith, a)) (omega (arith, b))

pub numbered_there : (ks : List FieldKind) (ws : List ℕ) (i : ℕ) → i < length ks → i < length ws
    → AreNumbered ks ws → IsNumbered (slice_index_or ks i kind.Null) (slice_index_or ws i 0)
numbered_there [] ws i k w all = absurd (omega (arith, k))
numbered_there (k ∷ ks) [] i a b all = absurd (omega (arith, b))
numbered_there (k ∷ ks) (w ∷ ws) zero a b all = all.0
numbered_there (k ∷ ks) (w ∷ ws) (suc i) a b all =
    numbered_there ks ws i (omega (arith, a)) (omega (arith, b)) all.1

-- a word that names an older record is a record's number
numbered_of : (n : ℕ) → n < 2 ^ 32 → (k : FieldKind) (w : ℕ) → FitsRecord n (field_of k w)
    → IsNumbered k w
numbered_of n few kind.Null w fits = tt
numbered_of n few kind.Num w fits = tt
numbered_of n few kind.Minor w fits = omega (arith, few, fits)
numbered_of n few kind.Shared w fits = tt

pub fits_numbered : (n : ℕ) → n < 2 ^ 32 → (ks : List FieldKind) (ws : List ℕ)
    → All (FitsRecord n) (fields_of ks ws) → AreNumbered ks ws
fits_numbered n few [] ws fits = tt
fits_numbered n few (k ∷ ks) [] fits = tt
fits_numbered n few (k ∷ ks) (w ∷ ws) fits = (
  numbered_of n few k w (fits 0 field.Null (omega arith)),
  fits_numbered n few ks ws (λ j d lt. fits (suc j) d (omega (arith, lt))),
)
