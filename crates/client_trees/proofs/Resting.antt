-- Private records that stand on places: they still stand when more is known or a record is made,
-- and they say what they said wherever the places do.
use Rattle.std.proofs.Common.{◌≡◌, ◌<◌, ℕ, zero, suc, List, [], ◌∷◌, ◌++◌, length}
use Rattle.std.proofs.Common.{refl, sym, ◌∙◌, ap, arith}
use Rattle.std.specs.Prelude.{slice_index_or}
use Rattle.cell_words.specs.Term.{Term, null, five}
use Rattle.minor_heap.specs.declared.fields.MinorField.{MinorField}
use Rattle.minor_heap.specs.declared.fields.MinorField.TheVariants as field
use Rattle.minor_heap.specs.declared.fields.MinorRef.{MinorRef}
use Rattle.minor_heap.specs.Nursery.{IsOrdered, field_at}
use Rattle.minor_heap.specs.Reaches.{Reaches, named, root}
use Rattle.minor_heap.specs.Terms.{field_term, term_of, terms_of}
use Rattle.minor_heap.proofs.Terms.{term_is}
use Rattle.client_trees.specs.Records.{Rests, rests}

-- the records stay, and the places may be others that are as good
pub rests_map : (records : List (List MinorField)) (ok also : ℕ → Type 0) (r : MinorRef)
    → ((place : ℕ) → ok place → also place) → Rests records ok r → Rests records also r
rests_map records ok also r step (rests stands places older) =
    rests stands (λ i place lt is. step place (places i place lt is))
    (λ i o lt is. rests_map records ok also o step (older i o lt is))

pub rests_stands : (records : List (List MinorField)) (ok : ℕ → Type 0) (r : MinorRef)
    → Rests records ok r → r.number < length records
rests_stands records ok r (rests stands places older) = stands

pub rests_place : (records : List (List MinorField)) (ok : ℕ → Type 0) (r : MinorRef)
    (i place : ℕ) → Rests records ok r → i < 5 → field_at records r.number i ≡ field.Shared place
    → ok place
rests_place records ok r i place (rests stands places older) lt is = places i place lt is

pub rests_older : (records : List (List MinorField)) (ok : ℕ → Type 0) (r : MinorRef) (i : ℕ)
    (o : MinorRef) → Rests records ok r → i < 5 → field_at records r.number i ≡ field.Minor o
    → Rests records ok o
rests_older records ok r i o (rests stands places older) lt is = older i o lt is

-- whatever such records reach stands where they do
pub rests_reached : (records : List (List MinorField)) (ok : ℕ → Type 0)
    (IsRoot : MinorRef → Type 0) → ((r : MinorRef) → IsRoot r → Rests records ok r) → (o : MinorRef)
    → Reaches records IsRoot o → Rests records ok o
rests_reached records ok IsRoot each o (root is) = each o is
rests_reached records ok IsRoot each o (named {r = r} i lt before is) =
    rests_older records ok r i o (rests_reached records ok IsRoot each r before) lt is

-- one more record

row_old : (records : List (List MinorField)) (fields : List MinorField) (k : ℕ)
    → k < length records → slice_index_or (records ++ fields ∷ []) k [] ≡ slice_index_or records k []
row_old [] fields k lt = absurd (omega (arith, lt))
row_old (r ∷ records) fields zero lt = refl
row_old (r ∷ records) fields (suc k) lt = row_old records fields k (omega (arith, lt))

row_new : (records : List (List MinorField)) (fields : List MinorField) (k : ℕ)
    → k ≡ length records → slice_index_or (records ++ fields ∷ []) k [] ≡ fields
row_new [] fields zero is = refl
row_new [] fields (suc k) is = absurd (omega (arith, is))
row_new (r ∷ records) fields zero is = absurd (omega (arith, is))
row_new (r ∷ records) fields (suc k) is = row_new records fields k (omega (arith, is))

longer : (records : List (List MinorField)) (fields : List MinorField)
    → length (records ++ fields ∷ []) ≡ suc (length records)
longer [] fields = refl
longer (r ∷ records) fields = ap suc (longer records fields)

pub rests_more : (records : List (List MinorField)) (fields : List MinorField) (ok : ℕ → Type 0)
    (r : MinorRef) → Rests records ok r → Rests (records ++ fields ∷ []) ok r
rests_more records fields ok r (rests stands places older) =
    let same : (i : ℕ) → field_at (records ++ fields ∷ []) r.number i ≡ field_at records r.number i
    = (λ i. ap (λ (row : List MinorField). slice_index_or row i field.Null)
    (row_old records fields r.number stands)) in
    rests (omega (arith, stands, longer records fields))
    (λ i place lt is. places i place lt (sym (same i) ∙ is))
    (λ i o lt is. rests_more records fields ok o (older i o lt (sym (same i) ∙ is)))

-- the new one stands where its fields do
pub rests_new : (records : List (List MinorField)) (fields : List MinorField) (ok : ℕ → Type 0)
    (r : MinorRef) → r.number ≡ length records
    → ((i place : ℕ) → i < 5 → slice_index_or fields i field.Null ≡ field.Shared place → ok place)
    → ((i : ℕ) (o : MinorRef) → i < 5 → slice_index_or fields i field.Null ≡ field.Minor o
    → Rests records ok o)
    → Rests (records ++ fields ∷ []) ok r
rests_new records fields ok r is places older =
    let same : (i : ℕ) → field_at (records ++ fields ∷ []) r.number i
    ≡ slice_index_or fields i field.Null
    = (λ i. ap (λ (row : List MinorField). slice_index_or row i field.Null)
    (row_new records fields r.number is)) in
    rests (omega (arith, is, longer records fields))
    (λ i place lt at. places i place lt (sym (same i) ∙ at))
    (λ i o lt at. rests_more records fields ok o (older i o lt (sym (same i) ∙ at)))

-- What it says, where the places say the same.

five_same : (a b : ℕ → Term) → ((i : ℕ) → i < 5 → a i ≡ b i)
    → five (a 0) (a 1) (a 2) (a 3) (a 4) ≡ five (b 0) (b 1) (b 2) (b 3) (b 4)
five_same a b same = λ j. five (same 0 (omega arith) j) (same 1 (omega arith) j)
    (same 2 (omega arith) j) (same 3 (omega arith) j) (same 4 (omega arith) j)

module _ (shared other : List Term) (records : List (List MinorField)) (ok : ℕ → Type 0)
    (agree : (place : ℕ) → ok place
    → slice_index_or shared place null ≡ slice_index_or other place null)
    (ordered : IsOrdered 0 records) where
  field_same : (f : MinorField) → ((place : ℕ) → f ≡ field.Shared place → ok place)
      → ((o : MinorRef) → f ≡ field.Minor o
      → term_of shared records o ≡ term_of other records o)
      → field_term shared (terms_of shared records) f ≡ field_term other (terms_of other records) f
  field_same field.Null places older = refl
  field_same (field.Num n) places older = refl
  field_same (field.Minor o) places older = older o refl
  field_same (field.Shared place) places older = agree place (places place refl)

  pub rests_same : (r : MinorRef) → Rests records ok r
      → term_of shared records r ≡ term_of other records r
  rests_same r (rests stands places older) =
      term_is shared records r ordered stands
      ∙ five_same (λ i. field_term shared (terms_of shared records) (field_at records r.number i))
      (λ i. field_term other (terms_of other records) (field_at records r.number i))
      (λ i lt. field_same (field_at records r.number i) (λ place is. places i place lt is)
      (λ o is. rests_same o (older i o lt is)))
      ∙ sym (term_is other records r ordered stands)
