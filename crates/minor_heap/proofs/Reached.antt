-- The records that are marked, as a list: each once, the oldest first.
use Rattle.std.proofs.Common.{◌≡◌, ◌⊎◌, ◌↔◌, ℕ, zero, suc, ◌+◌, ◌<◌, ◌≤◌, Bool, true, false, List}
use Rattle.std.proofs.Common.{[], ◌∷◌, ◌++◌, length, take}
use Rattle.std.proofs.Common.{refl, sym, ap, subst, ◌∙◌, arith, inl, inr, ⊎_elim, true≢false}
use Rattle.std.specs.Prelude.{slice_index_or, slice_set, replicate}
use Rattle.std.specs.List.{All, AllPairs, Contains}
use Rattle.std.proofs.lemmas.List.Elements.{All-nil, All-cons}
use Rattle.std.proofs.lemmas.List.Kept.{AllPairs-cons}
use Rattle.minor_heap.specs.declared.fields.MinorField.{MinorField}
use Rattle.minor_heap.specs.declared.fields.MinorRef.{MinorRef}
use Rattle.minor_heap.specs.Marking.{marked_of, with_refs}
use Rattle.minor_heap.specs.Reaches.{AreReached, Reaches, root, named, IsMarked}
use Rattle.minor_heap.specs.Spans.{NoneMarked}
use Rattle.minor_heap.proofs.Passing.{set_kept, set_marks, set_was, set_length}

-- Being among some records.

first_in : (r : MinorRef) (rs : List MinorRef) → Contains (r ∷ rs) r
first_in r rs = (0, omega arith, refl)

later_in : (r s : MinorRef) (rs : List MinorRef) → Contains rs r → Contains (s ∷ rs) r
later_in r s rs is = (suc is.0, omega (arith, is.1), is.2)

which : (r s : MinorRef) (rs : List MinorRef) (k : ℕ) → k < length (s ∷ rs)
    → slice_index_or (s ∷ rs) k r ≡ r → (s ≡ r) ⊎ Contains rs r
which r s rs zero lt e = inl e
which r s rs (suc k) lt e = inr (k, omega (arith, lt), e)

-- Marking some records.

refs_kept : (rs : List MinorRef) (marks : List Bool) (r : MinorRef) → IsMarked marks r
    → IsMarked (with_refs rs marks) r
refs_kept [] marks r is = is
refs_kept (s ∷ rs) marks r is =
    refs_kept rs (slice_set marks s.number true) r (set_kept marks r.number s.number is)

refs_mark : (rs : List MinorRef) (marks : List Bool) (r : MinorRef) → Contains rs r
    → r.number < length marks → IsMarked (with_refs rs marks) r
refs_mark [] marks r is lt = absurd (omega (arith, is.1))
refs_mark (s ∷ rs) marks r is lt =
    let now = slice_set marks s.number true in
    let there : r.number < length now = omega (arith, lt, set_length marks s.number) in
    ⊎_elim
    (λ (same : s ≡ r).
    refs_kept rs now r
    (subst (λ (k : ℕ). slice_index_or (slice_set marks k true) r.number false ≡ true)
    (ap (λ (t : MinorRef). t.number) (sym same)) (set_marks marks r.number lt)))
    (λ (later : Contains rs r). refs_mark rs now r later there)
    (which r s rs is.0 is.1 is.2)

refs_was : (rs : List MinorRef) (marks : List Bool) (r : MinorRef) → IsMarked (with_refs rs marks) r
    → Contains rs r ⊎ IsMarked marks r
refs_was [] marks r is = inr is
refs_was (s ∷ rs) marks r is =
    ⊎_elim (λ (later : Contains rs r). inl (later_in r s rs later))
    (λ (now : IsMarked (slice_set marks s.number true) r). ⊎_elim
    (λ (same : r.number ≡ s.number).
    inl (subst (λ (t : MinorRef). Contains (t ∷ rs) r) (λ i. record { number = same i })
    (first_in r rs)))
    (λ was. inr was) (set_was marks r.number s.number now))
    (refs_was rs (slice_set marks s.number true) r is)

none_marked : (n k : ℕ) → slice_index_or (replicate n false) k false ≡ false
none_marked zero k = refl
none_marked (suc n) zero = refl
none_marked (suc n) (suc k) = none_marked n k

-- the marks of some records alone
pub refs_alone : (marks : List Bool) (from : List MinorRef) → NoneMarked marks
    → All (λ r. r.number < length marks) from
    → (r : MinorRef) → IsMarked (with_refs from marks) r ↔ Contains from r
refs_alone marks from none stand r = (
  (λ is.
      ⊎_elim (λ among. among)
      (λ (was : IsMarked marks r). absurd (true≢false (sym was ∙ none r.number)))
      (refs_was from marks r is)),
  (λ (is : Contains from r).
      refs_mark from marks r is
      (subst (λ (t : MinorRef). t.number < length marks) is.2 (stand is.0 r is.1))),
)

pub refs_marked : (n : ℕ) (from : List MinorRef) → All (λ r. r.number < n) from
    → length (replicate n false) ≡ n
    → (r : MinorRef) → IsMarked (with_refs from (replicate n false)) r ↔ Contains from r
refs_marked n from stand count =
    refs_alone (replicate n false) from (none_marked n)
    (subst (λ (k : ℕ). All (λ (r : MinorRef). r.number < k) from) (sym count) stand)

reaches_map : (records : List (List MinorField)) (A B : MinorRef → Type 0)
    → ((r : MinorRef) → A r → B r)
    → (r : MinorRef) → Reaches records A r → Reaches records B r
reaches_map records A B to _ (root is) = root (to _ is)
reaches_map records A B to _ (named i lt before names) =
    named i lt (reaches_map records A B to _ before) names

-- The list of what is marked.

pub marked_in : (n : ℕ) (marks : List Bool) (k : ℕ) → slice_index_or marks k false ≡ true
    → (r : MinorRef) → r.number ≡ n + k → Contains (marked_of n marks) r
marked_in n [] k is r at = absurd (true≢false (sym is))
marked_in n (true ∷ marks) zero is r at =
    let e : n ≡ r.number = omega (arith, at) in
    subst (λ (t : MinorRef). Contains (t ∷ marked_of (n + 1) marks) r)
    (λ i. record { number = sym e i }) (first_in r (marked_of (n + 1) marks))
marked_in n (false ∷ marks) zero is r at = absurd (true≢false (sym is))
marked_in n (true ∷ marks) (suc k) is r at =
    later_in r record { number = n } (marked_of (n + 1) marks)
    (marked_in (n + 1) marks k is r (omega (arith, at)))
marked_in n (false ∷ marks) (suc k) is r at = marked_in (n + 1) marks k is r (omega (arith, at))

pub in_marked : (n : ℕ) (marks : List Bool) (r : MinorRef) → Contains (marked_of n marks) r
    → (k : ℕ) × (r.number ≡ n + k) × (slice_index_or marks k false ≡ true)
in_marked n [] r is = absurd (omega (arith, is.1))
in_marked n (true ∷ marks) r is =
    let me : MinorRef = record { number = n } in
    ⊎_elim
    (λ (same : me ≡ r). let e = ap (λ (t : MinorRef). t.number) same in
    (0, omega (arith, e), refl))
    (λ (later : Contains (marked_of (n + 1) marks) r). let x = in_marked (n + 1) marks r later in
    (suc x.0, omega (arith, x.1), x.2))
    (which r me (marked_of (n + 1) marks) is.0 is.1 is.2)
in_marked n (false ∷ marks) r is =
    let x = in_marked (n + 1) marks r is in (suc x.0, omega (arith, x.1), x.2)

abbrev IsFrom : ℕ → MinorRef → Type 0
IsFrom n r = n ≤ r.number

marked_from : (n : ℕ) (marks : List Bool) → All (IsFrom n) (marked_of n marks)
marked_from n [] = All-nil (IsFrom n)
marked_from n (true ∷ marks) =
    let rest = marked_from (n + 1) marks in
    All-cons (IsFrom n) record { number = n } (marked_of (n + 1) marks) (omega arith)
    (λ k d lt. let l = rest k d lt in omega (arith, l))
marked_from n (false ∷ marks) = λ k d lt. let l = marked_from (n + 1) marks k d lt in
    omega (arith, l)

pub marked_rising : (n : ℕ) (marks : List Bool)
    → AllPairs (λ (older r : MinorRef). older.number < r.number) (marked_of n marks)
marked_rising n [] = λ i j d lt there. absurd (omega (arith, there))
marked_rising n (true ∷ marks) =
    let Below : MinorRef → MinorRef → Type 0 = λ older r. older.number < r.number in
    let rest = marked_from (n + 1) marks in
    AllPairs-cons Below record { number = n } (marked_of (n + 1) marks)
    (λ k d lt. let l = rest k d lt in omega (arith, l)) (marked_rising (n + 1) marks)
marked_rising n (false ∷ marks) = marked_rising (n + 1) marks

-- the marks of all that some records reach
pub from_marks : (records : List (List MinorField)) (from : List MinorRef) (first marks : List Bool)
    → ((r : MinorRef) → IsMarked first r ↔ Contains from r)
    → ((r : MinorRef) → IsMarked marks r ↔ Reaches records (IsMarked first) r)
    → (r : MinorRef) → IsMarked marks r ↔ Reaches records (Contains from) r
from_marks records from first marks roots all r = (
  (λ is. reaches_map records (IsMarked first) (Contains from) (λ s. (roots s).0) r ((all r).0 is)),
  (λ is. (all r).1 (reaches_map records (Contains from) (IsMarked first) (λ s. (roots s).1) r is)),
)

-- as a list
pub reached_of : (records : List (List MinorField)) (from : List MinorRef) (marks : List Bool)
    → ((r : MinorRef) → IsMarked marks r ↔ Reaches records (Contains from) r)
    → AreReached records from (marked_of 0 marks)
reached_of records from marks all =
    record {
      reached = λ r. (
        (λ is. let x = in_marked 0 marks r is in
            let e : x.0 ≡ r.number = omega (arith, x.1) in
            (all r).0 (subst (λ (k : ℕ). slice_index_or marks k false ≡ true) e x.2)),
        (λ is. marked_in 0 marks r.number ((all r).1 is) r (omega arith)),
      );
      rising = marked_rising 0 marks;
    }

-- the front of a longer list
pub taken : (xs ys : List Bool) (n : ℕ) → n ≡ length xs → take n (xs ++ ys) ≡ xs
taken [] ys zero e = refl
taken [] ys (suc n) e = absurd (omega (arith, e))
taken (x ∷ xs) ys zero e = absurd (omega (arith, e))
taken (x ∷ xs) ys (suc n) e = ap (λ (l : List Bool). x ∷ l) (taken xs ys n (omega (arith, e)))
