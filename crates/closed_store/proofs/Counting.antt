-- Counting the numbers of a list that differ.
use Rattle.std.proofs.Common.{◌≡◌, ◌≢◌, ◌<◌, ◌+◌, ◌==◌, ◌↔◌, ◌∙◌, ℕ, zero, suc, Bool, true}
use Rattle.std.proofs.Common.{false, cond, List, [], ◌∷◌, length, inl, inr, refl, sym, ap, subst}
use Rattle.std.proofs.Common.{arith}
use Rattle.std.proofs.lemmas.Bool.{cases_eq, cases_lt, eq-eqb, false_from_ne_true}
use Rattle.std.proofs.lemmas.Bool.{false≢true, ne_eqb}
use Rattle.heap_census.specs.Counts.{count_below, one_if}
use Rattle.version_rule.specs.Chains.{Among, first, later}

-- no number stands twice in the list
abbrev pub Differ : List ℕ → Type 0
Differ [] = Unit {0}
Differ (x ∷ xs) = (Among x xs → ⊥) × Differ xs

same_counts : (p q : ℕ → Bool) (m : ℕ) → ((c : ℕ) → c < m → p c ≡ q c)
    → count_below p m ≡ count_below q m
same_counts p q zero same = refl
same_counts p q (suc m) same =
    let before = same_counts p q m (λ c lt. same c (omega (arith, lt))) in
    let here : one_if (p m) ≡ one_if (q m) = ap one_if (same m (omega arith)) in
    omega (arith, before, here)

pub none_counts : (p : ℕ → Bool) (m : ℕ) → ((c : ℕ) → c < m → p c ≡ false)
    → count_below p m ≡ 0
none_counts p zero none = refl
none_counts p (suc m) none =
    let before = none_counts p m (λ c lt. none c (omega (arith, lt))) in
    let here : one_if (p m) ≡ 0 = ap one_if (none m (omega arith)) in
    omega (arith, before, here)

-- one number more passes
one_counts : (p q : ℕ → Bool) (x m : ℕ) → x < m → p x ≡ false → q x ≡ true
    → ((c : ℕ) → c < m → c ≢ x → p c ≡ q c) → count_below q m ≡ count_below p m + 1
one_counts p q x zero lt not_in is same = absurd (omega (arith, lt))
one_counts p q x (suc m) lt not_in is same = elim (cases_eq x m) [
  | inl here ↦
      let before = same_counts p q m (λ c less. same c (omega (arith, less))
      (λ e. omega (arith, less, e, here))) in
      let old : one_if (p m) ≡ 0 = ap one_if (subst (λ n. p n ≡ false) here not_in) in
      let new : one_if (q m) ≡ 1 = ap one_if (subst (λ n. q n ≡ true) here is) in
      omega (arith, before, old, new)
  | inr other ↦
      let low : x < m = before_last x m lt other in
      let before = one_counts p q x m low not_in is
      (λ c less ne. same c (omega (arith, less)) ne) in
      let here : one_if (p m) ≡ one_if (q m) =
      ap one_if (same m (omega arith) (λ e. other (sym e))) in
      omega (arith, before, here)
]
  where
    before_last : (x m : ℕ) → x < suc m → x ≢ m → x < m
    before_last x m lt other = elim (cases_lt x m) [
      | inl less ↦ less
      | inr past ↦ absurd (other (omega (arith, lt, past)))
    ]

-- the test passes those of the list, and no others
abbrev pub Finds : List ℕ → (ℕ → Bool) → ℕ → Type 0
Finds xs test m = (c : ℕ) → c < m → (test c ≡ true) ↔ Among c xs

-- the test for the rest of a list
abbrev but : ℕ → (ℕ → Bool) → ℕ → Bool
but x test c = cond (x == c) false (test c)

but_here : (x : ℕ) (test : ℕ → Bool) → but x test x ≡ false
but_here x test = ap (λ (b : Bool). cond b false (test x)) (eq-eqb x x refl)

but_other : (x : ℕ) (test : ℕ → Bool) (c : ℕ) → c ≢ x → but x test c ≡ test c
but_other x test c other =
    ap (λ (b : Bool). cond b false (test c)) (ne_eqb x c (λ e. other (sym e)))

in_rest : (x c : ℕ) (xs : List ℕ) → Among c (x ∷ xs) → c ≢ x → Among c xs
in_rest x c xs first other = absurd (other refl)
in_rest x c xs (later there) other = there

rest_found : (x : ℕ) (xs : List ℕ) (test : ℕ → Bool) (m : ℕ) → (Among x xs → ⊥)
    → Finds (x ∷ xs) test m → Finds xs (but x test) m
rest_found x xs test m apart found c lt = elim (cases_eq c x) [
  | inl here ↦ (
    (λ is. absurd (false≢true
        (sym (subst (λ n. but x test n ≡ false) (sym here) (but_here x test)) ∙ is))),
    (λ there. absurd (apart (subst (λ n. Among n xs) here there))),
  )
  | inr other ↦ (
    (λ is. in_rest x c xs ((found c lt).0 (sym (but_other x test c other) ∙ is)) other),
    (λ there. but_other x test c other ∙ (found c lt).1 (later there)),
  )
]

pub found_counts : (xs : List ℕ) (test : ℕ → Bool) (m : ℕ) → Differ xs
    → ((c : ℕ) → Among c xs → c < m) → Finds xs test m → count_below test m ≡ length xs
found_counts [] test m apart below found =
    none_counts test m (λ c lt. false_from_ne_true (test c)
    (λ is. none_there c ((found c lt).0 is)))
  where
    none_there : (c : ℕ) → Among c [] → ⊥
    none_there c h = elim h [ ]
found_counts (x ∷ xs) test m apart below found =
    let rest = found_counts xs (but x test) m apart.1 (λ c there. below c (later there))
    (rest_found x xs test m apart.0 found) in
    let one = one_counts (but x test) test x m (below x first) (but_here x test)
    ((found x (below x first)).1 first) (λ c lt other. but_other x test c other) in
    omega (arith, rest, one)
