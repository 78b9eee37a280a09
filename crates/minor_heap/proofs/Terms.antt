-- The terms of records: one more record leaves those of the older ones, and so does one less, and
-- each is its fields'.
use Rattle.std.proofs.Common.{◌≡◌, ℕ, zero, suc, ◌+◌, ◌<◌, List, [], ◌∷◌, ◌++◌, length, refl, sym}
use Rattle.std.proofs.Common.{ap, subst, take, ◌∙◌, arith, length-append}
use Rattle.std.specs.Prelude.{slice_index_or, All}
use Rattle.std.proofs.lemmas.List.{get_or-take, take-take, take_all, take_at}
use Rattle.cell_words.specs.Term.{Term, null, five, part, IsFive}
use Rattle.minor_heap.specs.declared.fields.MinorField.{MinorField}
use Rattle.minor_heap.specs.declared.fields.MinorField.TheVariants as field
use Rattle.minor_heap.specs.declared.fields.MinorRef.{MinorRef}
use Rattle.minor_heap.specs.Nursery.{FitsRecord, IsOrdered, field_at}
use Rattle.minor_heap.specs.Terms.{field_term, record_term, terms_after, terms_of, term_of}

pub terms_snoc : (shared older : List Term) (records : List (List MinorField))
    (fields : List MinorField)
    → terms_after shared older (records ++ fields ∷ [])
    ≡ terms_after shared older records ++ record_term shared (terms_after shared older records)
    fields ∷ []
terms_snoc shared older [] fields = refl
terms_snoc shared older (r ∷ records) fields =
    terms_snoc shared (older ++ record_term shared older r ∷ []) records fields

index_append : (xs ys : List Term) (k : ℕ) → k < length xs → slice_index_or (xs ++ ys) k null
    ≡ slice_index_or xs k null
index_append [] ys k lt = absurd (omega (arith, lt))
index_append (x ∷ xs) ys zero lt = refl
index_append (x ∷ xs) ys (suc k) lt = index_append xs ys k (omega (arith, lt))

index_last : (xs : List Term) (x : Term) (k : ℕ) → k ≡ length xs
    → slice_index_or (xs ++ x ∷ []) k null ≡ x
index_last [] x zero e = refl
index_last [] x (suc k) e = absurd (omega (arith, e))
index_last (y ∷ xs) x zero e = absurd (omega (arith, e))
index_last (y ∷ xs) x (suc k) e = index_last xs x k (omega (arith, e))

-- the terms of older records stay
pub terms_keep : (shared older : List Term) (records : List (List MinorField)) (k : ℕ)
    → k < length older
    → slice_index_or (terms_after shared older records) k null ≡ slice_index_or older k null
terms_keep shared older [] k lt = refl
terms_keep shared older (r ∷ records) k lt =
    let t = record_term shared older r in
    let longer : k < length (older ++ t ∷ []) = omega (arith, lt, length-append older (t ∷ [])) in
    terms_keep shared (older ++ t ∷ []) records k longer ∙ index_append older (t ∷ []) k lt

-- a field that record k may have has the same term in two lists that agree below k
same_field : (shared xs ys : List Term) (k : ℕ) (f : MinorField) → FitsRecord k f
    → ((j : ℕ) → j < k → slice_index_or ys j null ≡ slice_index_or xs j null)
    → field_term shared ys f ≡ field_term shared xs f
same_field shared xs ys k field.Null fits agree = refl
same_field shared xs ys k (field.Num n) fits agree = refl
same_field shared xs ys k (field.Minor r) fits agree = agree r.number fits
same_field shared xs ys k (field.Shared place) fits agree = refl

-- past the end of a record stands null
fits_past : (k : ℕ) (fields : List MinorField) (i : ℕ) → All (FitsRecord k) fields
    → FitsRecord k (slice_index_or fields i field.Null)
fits_past k [] i all = tt
fits_past k (f ∷ fs) zero all = all 0 field.Null (omega arith)
fits_past k (f ∷ fs) (suc i) all = fits_past k fs i (λ j d lt. all (suc j) d (omega (arith, lt)))

same_record : (shared xs ys : List Term) (k : ℕ) (fields : List MinorField)
    → All (FitsRecord k) fields
    → ((j : ℕ) → j < k → slice_index_or ys j null ≡ slice_index_or xs j null)
    → record_term shared ys fields ≡ record_term shared xs fields
same_record shared xs ys k fields all agree =
    let at : (i : ℕ) → field_term shared ys (slice_index_or fields i field.Null)
    ≡ field_term shared xs (slice_index_or fields i field.Null) =
    λ i. same_field shared xs ys k (slice_index_or fields i field.Null) (fits_past k fields i all)
    agree in
    λ i. five (at 0 i) (at 1 i) (at 2 i) (at 3 i) (at 4 i)

-- the term of record k is that of its fields
term_from : (shared older : List Term) (n : ℕ) (records : List (List MinorField)) (k : ℕ) → n
    ≡ length older → IsOrdered n records
    → k < length records
    → slice_index_or (terms_after shared older records) (n + k) null
    ≡ record_term shared (terms_after shared older records) (slice_index_or records k [])
term_from shared older n [] k e ordered lt = absurd (omega (arith, lt))
term_from shared older n (r ∷ records) zero e ordered lt =
    let t = record_term shared older r in
    let all = terms_after shared (older ++ t ∷ []) records in
    let there : n + 0 ≡ length older = omega (arith, e) in
    let below : n + 0 < length (older ++ t ∷ []) = omega (arith, e, length-append older (t ∷ [])) in
    let kept : slice_index_or all (n + 0) null ≡ t =
    terms_keep shared (older ++ t ∷ []) records (n + 0) below ∙ index_last older t (n + 0) there in
    kept ∙ sym
    (same_record shared older all n r ordered.0
    (λ j less. let l : j < length older = omega (arith, e, less) in
    terms_keep shared older (r ∷ records) j l))
term_from shared older n (r ∷ records) (suc k) e ordered lt =
    let t = record_term shared older r in
    let longer : n + 1
    ≡ length (older ++ t ∷ []) = omega (arith, e, length-append older (t ∷ [])) in
    let place : n + suc k ≡ n + 1 + k = omega arith in
    ap (λ (m : ℕ). slice_index_or (terms_after shared (older ++ t ∷ []) records) m null) place
    ∙ term_from shared (older ++ t ∷ []) (n + 1) records k longer ordered.1 (omega (arith, lt))

pub term_is : (shared : List Term) (records : List (List MinorField)) (r : MinorRef)
    → IsOrdered 0 records → r.number < length records
    → term_of shared records r
    ≡ record_term shared (terms_of shared records) (slice_index_or records r.number [])
term_is shared records r ordered stands =
    let place : r.number ≡ 0 + r.number = omega arith in
    ap (λ (m : ℕ). slice_index_or (terms_of shared records) m null) place
    ∙ term_from shared [] 0 records r.number refl ordered stands

-- what a reader of a record learns of its term
pub is_five : (shared : List Term) (records : List (List MinorField)) (r : MinorRef)
    → IsOrdered 0 records → r.number < length records
    → IsFive (term_of shared records r)
is_five shared records r ordered stands =
    subst (λ (t : Term). IsFive t) (sym (term_is shared records r ordered stands)) tt

part_record : (shared older : List Term) (fields : List MinorField) (i : ℕ) → i < 5
    → part i (record_term shared older fields)
    ≡ field_term shared older (slice_index_or fields i field.Null)
part_record shared older fields zero lt = refl
part_record shared older fields (suc zero) lt = refl
part_record shared older fields (suc (suc zero)) lt = refl
part_record shared older fields (suc (suc (suc zero))) lt = refl
part_record shared older fields (suc (suc (suc (suc zero)))) lt = refl
part_record shared older fields (suc (suc (suc (suc (suc i))))) lt = absurd (omega (arith, lt))

pub part_is : (shared : List Term) (records : List (List MinorField)) (r : MinorRef) (i : ℕ)
    → IsOrdered 0 records → r.number < length records → i < 5
    → part i (term_of shared records r)
    ≡ field_term shared (terms_of shared records) (field_at records r.number i)
part_is shared records r i ordered stands lt =
    ap (part i) (term_is shared records r ordered stands)
    ∙ part_record shared (terms_of shared records) (slice_index_or records r.number []) i lt

-- each field of a record is one that it may have
fits_from : (n : ℕ) (records : List (List MinorField)) (k i : ℕ) → IsOrdered n records
    → k < length records
    → FitsRecord (n + k) (field_at records k i)
fits_from n [] k i ordered lt = absurd (omega (arith, lt))
fits_from n (r ∷ records) zero i ordered lt =
    let e : n
    ≡ n + 0 = omega arith in
    subst (λ (m : ℕ). FitsRecord m (slice_index_or r i field.Null)) e
    (fits_past n r i ordered.0)
fits_from n (r ∷ records) (suc k) i ordered lt =
    let e : n + 1 + k ≡ n + suc k = omega arith in
    subst (λ (m : ℕ). FitsRecord m (field_at records k i)) e
    (fits_from (n + 1) records k i ordered.1 (omega (arith, lt)))

pub fits_is : (records : List (List MinorField)) (k i : ℕ) → IsOrdered 0 records
    → k < length records → FitsRecord k (field_at records k i)
fits_is records k i ordered lt =
    let e : 0 + k
    ≡ k = omega arith in
    subst (λ (m : ℕ). FitsRecord m (field_at records k i)) e
    (fits_from 0 records k i ordered lt)

ordered_from : (n m : ℕ) (records : List (List MinorField)) (fields : List MinorField)
    → IsOrdered n records → m ≡ n + length records
    → All (FitsRecord m) fields → IsOrdered n (records ++ fields ∷ [])
ordered_from n m [] fields ordered e fits =
    let here : m
    ≡ n = omega (arith, e) in (subst (λ (k : ℕ). All (FitsRecord k) fields) here fits, tt)
ordered_from n m (r ∷ records) fields ordered e fits =
    (ordered.0, ordered_from (n + 1) m records fields ordered.1 (omega (arith, e)) fits)

pub ordered_snoc : (records : List (List MinorField)) (fields : List MinorField)
    → IsOrdered 0 records → All (FitsRecord (length records)) fields
    → IsOrdered 0 (records ++ fields ∷ [])
ordered_snoc records fields ordered fits =
    ordered_from 0 (length records) records fields ordered (omega arith) fits

-- The first records alone.

-- the terms begin with those of the older records
terms_begin : (shared older : List Term) (records : List (List MinorField)) (n : ℕ)
    → n ≡ length older → take n (terms_after shared older records) ≡ older
terms_begin shared older [] n is = take_all n older (omega (arith, is))
terms_begin shared older (r ∷ records) n is =
    let t = record_term shared older r in
    let all = terms_after shared (older ++ t ∷ []) records in
    let next : suc n ≡ length (older ++ t ∷ []) = omega (arith, is, length-append older (t ∷ [])) in
    sym (take-take n (suc n) all (omega arith))
    ∙ ap (λ (ts : List Term). take n ts)
    (terms_begin shared (older ++ t ∷ []) records (suc n) next)
    ∙ take_at older (t ∷ []) n (sym is)

take_terms : (shared older : List Term) (records : List (List MinorField)) (k n : ℕ)
    → n ≡ length older + k
    → terms_after shared older (take k records) ≡ take n (terms_after shared older records)
take_terms shared older [] zero n is = sym (take_all n older (omega (arith, is)))
take_terms shared older [] (suc k) n is = sym (take_all n older (omega (arith, is)))
take_terms shared older (r ∷ records) zero n is =
    sym (terms_begin shared older (r ∷ records) n (omega (arith, is)))
take_terms shared older (r ∷ records) (suc k) n is =
    let t = record_term shared older r in
    take_terms shared (older ++ t ∷ []) records k n
    (omega (arith, is, length-append older (t ∷ [])))

pub terms_take : (shared : List Term) (records : List (List MinorField)) (k : ℕ)
    → terms_of shared (take k records) ≡ take k (terms_of shared records)
terms_take shared records k = take_terms shared [] records k k (omega arith)

pub ordered_take : (n : ℕ) (records : List (List MinorField)) (k : ℕ) → IsOrdered n records
    → IsOrdered n (take k records)
ordered_take n [] zero ordered = tt
ordered_take n [] (suc k) ordered = tt
ordered_take n (r ∷ records) zero ordered = tt
ordered_take n (r ∷ records) (suc k) ordered =
    (ordered.0, ordered_take (n + 1) records k ordered.1)

-- each of them has the fields and the term that it had
pub field_take : (records : List (List MinorField)) (k j i : ℕ) → j < k
    → field_at (take k records) j i ≡ field_at records j i
field_take records k j i lt =
    ap (λ (fields : List MinorField). slice_index_or fields i field.Null)
    (get_or-take k records j [] lt)

pub term_take : (shared : List Term) (records : List (List MinorField)) (k : ℕ) (r : MinorRef)
    → r.number < k → term_of shared (take k records) r ≡ term_of shared records r
term_take shared records k r lt =
    ap (λ (ts : List Term). slice_index_or ts r.number null) (terms_take shared records k)
    ∙ get_or-take k (terms_of shared records) r.number null lt
