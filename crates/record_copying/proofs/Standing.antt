-- Copies stand while what was known as a record still is, and one more copy joins them.
use Rattle.std.proofs.Common.{◌≡◌, ◌<◌, ◌≤◌, ◌++◌, ◌∷◌, ◌∙◌, inl, inr, ℕ, suc, List, []}
use Rattle.std.proofs.Common.{Bool, true, false, true≢false, length, length-append, refl, sym}
use Rattle.std.proofs.Common.{◌+◌, ap, arith}
use Rattle.std.specs.Prelude.{slice_index_or, slice_set}
use Rattle.std.proofs.lemmas.Bool.{cases_eq}
use Rattle.std.proofs.lemmas.List.{get_or-set_other, get_or-set_same}
use Rattle.std.proofs.Math.ListN.{get_or-append, get_or-map}
use Rattle.cell_words.specs.Term.{Term, five, null}
use Rattle.heap_rule.specs.Facts.{is_term}
use Rattle.heap_rule.specs.Lore.{known_at, term_or}
use Rattle.heap_rule.specs.declared.known.Known.{Known}
use Rattle.heap_rule.specs.declared.known.Known.TheVariants as knows
use Rattle.minor_heap.specs.declared.fields.MinorField.{MinorField}
use Rattle.minor_heap.specs.declared.fields.MinorField.TheVariants as field
use Rattle.minor_heap.specs.declared.fields.MinorRef.{MinorRef}
use Rattle.minor_heap.specs.Nursery.{IsOrdered, field_at}
use Rattle.minor_heap.specs.Spans.{NoneMarked}
use Rattle.minor_heap.specs.Terms.{field_term, record_term, term_of, terms_after, terms_of}
use Rattle.minor_heap.proofs.Terms.{terms_snoc}
use Rattle.mutator_seat.specs.Bound.{Bound}
use Rattle.promotion.specs.Copying.{AreCopied, Copied, IsReady, copied_term, value_of}
use Rattle.promotion.specs.Sharing.{SharesRecord, known_terms}
use Rattle.promotion.proofs.Growing.{copy_term, copy_there, fields_ready, still_copied}
use Rattle.promotion.proofs.Knowing.{record_of}
use Rattle.record_copying.specs.Copies.{AllShare, AreCopies, IsCopied, KeepCopies, StillRecords}

-- Terms.

field_stays : (known later : List Known) (older : List Term) → StillRecords known later
    → (f : MinorField) → SharesRecord known f
    → field_term (known_terms later) older f ≡ field_term (known_terms known) older f
field_stays known later older still field.Null shares = refl
field_stays known later older still (field.Num n) shares = refl
field_stays known later older still (field.Minor r) shares = refl
field_stays known later older still (field.Shared place) shares =
    let is = record_of (known_at known place) shares in
    get_or-map (term_or null) later place knows.Nothing
    ∙ ap (term_or null) (still place is.0 is.1 ∙ sym is.1)
    ∙ sym (get_or-map (term_or null) known place knows.Nothing)

record_stays : (known later : List Known) (older : List Term) → StillRecords known later
    → (fields : List MinorField)
    → ((i : ℕ) → SharesRecord known (slice_index_or fields i field.Null))
    → record_term (known_terms later) older fields ≡ record_term (known_terms known) older fields
record_stays known later older still fields shares =
    let at : (i : ℕ) → _ = λ i.
    field_stays known later older still (slice_index_or fields i field.Null) (shares i) in
    λ t. five (at 0 t) (at 1 t) (at 2 t) (at 3 t) (at 4 t)

terms_after_stay : (known later : List Known) (older : List Term) → StillRecords known later
    → (records : List (List MinorField)) → AllShare known records
    → terms_after (known_terms later) older records ≡ terms_after (known_terms known) older records
terms_after_stay known later older still [] shares = refl
terms_after_stay known later older still (fields ∷ records) shares =
    ap (λ (t : Term). terms_after (known_terms later) (older ++ t ∷ []) records)
    (record_stays known later older still fields (λ i. shares 0 i))
    ∙ terms_after_stay known later (older ++ record_term (known_terms known) older fields ∷ [])
    still records (λ k i. shares (suc k) i)

-- what private records denote stays, whatever else is held
pub terms_stay : (known later : List Known) (records : List (List MinorField))
    → AllShare known records → StillRecords known later
    → terms_of (known_terms later) records ≡ terms_of (known_terms known) records
terms_stay known later records shares still = terms_after_stay known later [] still records shares

share_stays : (known later : List Known) → StillRecords known later → (f : MinorField)
    → SharesRecord known f → SharesRecord later f
share_stays known later still field.Null shares = tt
share_stays known later still (field.Num n) shares = tt
share_stays known later still (field.Minor r) shares = tt
share_stays known later still (field.Shared place) shares =
    let is = record_of (known_at known place) shares in ap is_term (still place is.0 is.1)

pub all_share_still : (known later : List Known) (records : List (List MinorField))
    → AllShare known records → StillRecords known later → AllShare later records
all_share_still known later records shares still k i =
    share_stays known later still (field_at records k i) (shares k i)

pub copies_stay : (known later : List Known) (records : List (List MinorField))
    (copied : List Bool) (places : List ℕ) → AllShare known records → StillRecords known later
    → AreCopies known records copied places → AreCopies later records copied places
copies_stay known later records copied places shares still are = record {
  denote = λ k lt is.
      still (slice_index_or places k 0) _ (are.denote k lt is)
      ∙ ap (λ (ts : List Term). knows.Record (slice_index_or ts k null))
      (sym (terms_stay known later records shares still));
  within = are.within;
}

-- One more copy.

module _ {P : Type 0} (a b : Bound P) (records : List (List MinorField)) (copied : List Bool)
    (places : List ℕ) (r : MinorRef) (place : ℕ)
    (ordered : IsOrdered 0 records) (stands : r.number < length records)
    (shares : AllShare a.seat.me.known records)
    (are : AreCopies a.seat.me.known records copied places)
    (older : (i : ℕ) (older : MinorRef) → i < 5
    → field_at records r.number i ≡ field.Minor older → IsCopied copied older) where
  below : AreCopied a.seat.me.known copied r.number places
      (terms_of (known_terms a.seat.me.known) records)
  below k lt is = are.denote k (omega (arith, lt, stands)) is

  pub ready_one : (i : ℕ) → i < 5
      → IsReady a.seat.me.known (value_of places (field_at records r.number i))
  ready_one i lt =
      fields_ready a.seat.me.known a.seat.me.known records copied places r.number ordered stands
      (λ q t is. is) below older (λ i lt. shares r.number i) i lt

  pub term_one : copied_term a.seat.me.known places records r.number
      ≡ term_of (known_terms a.seat.me.known) records r
  term_one =
      copy_term a.seat.me.known a.seat.me.known records copied places r.number ordered stands
      (λ q t is. is) below older (λ i lt. shares r.number i)

  module _ (got : Copied a place (term_of (known_terms a.seat.me.known) records r) b)
      (fit : length records ≤ length copied) (room : length records ≤ length places) where
    still : StillRecords a.seat.me.known b.seat.me.known
    still = still_copied a b place (term_of (known_terms a.seat.me.known) records r) got

    term_now : (k : ℕ) → knows.Record (slice_index_or (terms_of (known_terms a.seat.me.known) records)
        k null)
        ≡ knows.Record (slice_index_or (terms_of (known_terms b.seat.me.known) records) k null)
    term_now k =
        ap (λ (ts : List Term). knows.Record (slice_index_or ts k null))
        (sym (terms_stay a.seat.me.known b.seat.me.known records shares still))

    denote_one : AreCopied b.seat.me.known (slice_set copied r.number true) (length records)
        (slice_set places r.number place) (terms_of (known_terms b.seat.me.known) records)
    denote_one k lt is = elim (cases_eq k r.number) [
      | inl same ↦
          ap (λ (j : ℕ). known_at b.seat.me.known
          (slice_index_or (slice_set places r.number place) j 0)) same
          ∙ ap (λ (p : ℕ). known_at b.seat.me.known p)
          (get_or-set_same places r.number place 0 (omega (arith, stands, room)))
          ∙ copy_there a b place (term_of (known_terms a.seat.me.known) records r) got
          ∙ term_now r.number
          ∙ ap (λ (j : ℕ). knows.Record
          (slice_index_or (terms_of (known_terms b.seat.me.known) records) j null)) (sym same)
      | inr other ↦
          ap (λ (p : ℕ). known_at b.seat.me.known p)
          (get_or-set_other places r.number k place 0 other)
          ∙ still (slice_index_or places k 0) _
          (are.denote k lt (sym (get_or-set_other copied r.number k true false other) ∙ is))
          ∙ term_now k
    ]

    within_one : (k : ℕ) → slice_index_or (slice_set copied r.number true) k false ≡ true
        → k < length records
    within_one k is = elim (cases_eq k r.number) [
      | inl same ↦ omega (arith, same, stands)
      | inr other ↦
          are.within k (sym (get_or-set_other copied r.number k true false other) ∙ is)
    ]

    pub copies_one : AreCopies b.seat.me.known records (slice_set copied r.number true)
        (slice_set places r.number place)
    copies_one = record { denote = denote_one; within = within_one }

-- the others keep theirs
pub keep_one : (copied : List Bool) (places : List ℕ) (n place : ℕ)
    → slice_index_or copied n false ≡ false
    → KeepCopies copied places (slice_set copied n true) (slice_set places n place)
keep_one copied places n place due k is = elim (cases_eq k n) [
  | inl same ↦ absurd (true≢false
      (sym is ∙ ap (λ (j : ℕ). slice_index_or copied j false) same ∙ due))
  | inr other ↦ (
    get_or-set_other copied n k true false other ∙ is,
    get_or-set_other places n k place 0 other,
  )
]

pub keep_none : (copied : List Bool) (places : List ℕ) → KeepCopies copied places copied places
keep_none copied places k is = (is, refl)

pub keep_then : (copied later last : List Bool) (places further end : List ℕ)
    → KeepCopies copied places later further → KeepCopies later further last end
    → KeepCopies copied places last end
keep_then copied later last places further end first second k is =
    let one = first k is in
    let two = second k one.0 in (two.0, two.1 ∙ one.1)

-- A new record, and none.

terms_many : (shared older : List Term) (records : List (List MinorField))
    → length (terms_after shared older records) ≡ length older + length records
terms_many shared older [] = omega arith
terms_many shared older (fields ∷ records) =
    let t = record_term shared older fields in
    omega (arith, terms_many shared (older ++ t ∷ []) records, length-append older (t ∷ []))

pub copies_made : (known : List Known) (records : List (List MinorField)) (fields : List MinorField)
    (copied : List Bool) (places : List ℕ) → AreCopies known records copied places
    → AreCopies known (records ++ fields ∷ []) copied places
copies_made known records fields copied places are =
    let shared = known_terms known in
    let t = record_term shared (terms_of shared records) fields in
    record {
      denote = λ k lt is.
          let old = are.within k is in
          are.denote k old is
          ∙ ap (λ (u : Term). knows.Record u)
          (sym (ap (λ (ts : List Term). slice_index_or ts k null)
          (terms_snoc shared [] records fields)
          ∙ get_or-append (terms_of shared records) (t ∷ []) null k
          (let many = terms_many shared [] records in omega (arith, old, many))));
      within = λ k is.
          let old = are.within k is in
          omega (arith, old, length-append records (fields ∷ []));
    }

pub copies_none : (known : List Known) (records : List (List MinorField)) (copied : List Bool)
    (places : List ℕ) → NoneMarked copied → AreCopies known records copied places
copies_none known records copied places none = record {
  denote = λ k lt is. absurd (true≢false (sym is ∙ none k));
  within = λ k is. absurd (true≢false (sym is ∙ none k));
}
