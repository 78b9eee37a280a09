-- Marks between two numbers.
use Rattle.std.proofs.Common.{◌≡◌, ◌↔◌, ℕ, zero, suc, ◌+◌, ◌<◌, ◌≤◌, Bool, true, false, List}
use Rattle.std.proofs.Common.{[], ◌∷◌, length}
use Rattle.std.proofs.Common.{refl, sym, subst, arith, ⊎_elim, true≢false}
use Rattle.std.specs.Prelude.{slice_index_or, slice_set}
use Rattle.std.specs.List.{All, Contains}
use Rattle.minor_heap.specs.declared.fields.MinorField.{MinorField}
use Rattle.minor_heap.specs.declared.fields.MinorField.TheVariants as field
use Rattle.minor_heap.specs.declared.fields.MinorRef.{MinorRef}
use Rattle.minor_heap.specs.Marking.{with_fields, with_refs}
use Rattle.minor_heap.specs.Nursery.{FitsRecord, IsOrdered}
use Rattle.minor_heap.specs.Reaches.{IsMarked}
use Rattle.minor_heap.specs.Spans.{AreFrom, AreWithin, NoneMarked}
use Rattle.minor_heap.proofs.Passing.{MarksFrom, fields_was, marks_below}
use Rattle.minor_heap.proofs.Reached.{refs_alone}
use Rattle.minor_heap.proofs.Terms.{fits_is}

-- Taking marks away.

unset_was : (marks : List Bool) (j k : ℕ)
    → slice_index_or (slice_set marks k false) j false ≡ true
    → (j ≡ k → ⊥) × (slice_index_or marks j false ≡ true)
unset_was [] j k e = absurd (true≢false (sym e))
unset_was (m ∷ ms) zero zero e = absurd (true≢false (sym e))
unset_was (m ∷ ms) zero (suc k) e = ((λ same. absurd (omega (arith, same))), e)
unset_was (m ∷ ms) (suc j) zero e = ((λ same. absurd (omega (arith, same))), e)
unset_was (m ∷ ms) (suc j) (suc k) e =
    let x = unset_was ms j k e in
    ((λ (same : suc j ≡ suc k). x.0 (let e : j ≡ k = omega (arith, same) in e)), x.1)

at_most : (n k : ℕ) → n ≤ k → (k ≡ n → ⊥) → n + 1 ≤ k
at_most n k le other = search (arith, le, other)

pub within_next : (n end : ℕ) (marks : List Bool)
    → AreWithin (record { first = n; end = end }) marks
    → AreWithin (record { first = n + 1; end = end }) (slice_set marks n false)
within_next n end marks within r is =
    let x = unset_was marks r.number n is in
    let y = within r x.1 in
    (at_most n r.number y.0 x.0, y.1)

not_true : (b : Bool) → (b ≡ true → ⊥) → b ≡ false
not_true true not = absurd (not refl)
not_true false not = refl

pub within_none : (n end : ℕ) (marks : List Bool) → end ≤ n
    → AreWithin (record { first = n; end = end }) marks → NoneMarked marks
within_none n end marks past within k =
    not_true (slice_index_or marks k false)
    (λ is. let x = within (record { number = k }) is in omega (arith, x.0, x.1, past))

-- The marks of roots.

module _ (records : List (List MinorField)) (from : List MinorRef) (marks : List Bool)
    (none : NoneMarked marks) (room : length records ≤ length marks)
    (stand : All (λ (r : MinorRef). r.number < length records) from) where
  alone : (r : MinorRef) → IsMarked (with_refs from marks) r ↔ Contains from r
  alone =
      refs_alone marks from none
      (λ i d lt. let l = stand i d lt in omega (arith, l, room))

  at_root : (T : MinorRef → Type 0) → All T from → (r : MinorRef) → Contains from r → T r
  at_root T each r is = subst T is.2 (each is.0 r is.1)

  pub roots_from : (first : ℕ) → All (λ (r : MinorRef). first ≤ r.number) from
      → AreFrom first (with_refs from marks)
  roots_from first each r is =
      at_root (λ (s : MinorRef). first ≤ s.number) each r ((alone r).0 is)

  pub roots_below : (end : ℕ) → All (λ (r : MinorRef). r.number < end) from
      → (r : MinorRef) → IsMarked (with_refs from marks) r → r.number < end
  roots_below end each r is =
      at_root (λ (s : MinorRef). s.number < end) each r ((alone r).0 is)

  pub roots_start : (end : ℕ) → length records ≤ length (with_refs from marks)
      → All (λ (r : MinorRef). r.number < end) from
      → MarksFrom records (Contains from) (with_refs from marks) end
  roots_start end count each =
      marks_below records (Contains from) (with_refs from marks) end count alone
      (roots_below end each)

-- what a record names lies below it
pub named_below : (records : List (List MinorField)) (marks : List Bool) (m end : ℕ)
    → IsOrdered 0 records → m < length records → m < end
    → ((r : MinorRef) → IsMarked marks r → r.number < end) → (r : MinorRef)
    → IsMarked (with_fields 5 (slice_index_or records m []) marks) r → r.number < end
named_below records marks m end ordered stands lt below r is =
    let fs = slice_index_or records m [] in
    ⊎_elim
    (λ (x : (i : ℕ) × (i < 5) × (slice_index_or fs i field.Null ≡ field.Minor r)).
    let older : r.number < m =
    subst (λ (f : MinorField). FitsRecord m f) x.2 (fits_is records m x.0 ordered stands) in
    omega (arith, older, lt))
    (λ (was : IsMarked marks r). below r was)
    (fields_was 5 fs marks r is)
