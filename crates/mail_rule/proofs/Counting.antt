-- Each position of a list is one number's: so the positions of all senders are those of the
-- letters, each once, and those of all takers those of the takes.
use Rattle.std.proofs.Common.{◌≡◌, ◌≢◌, ℕ, zero, suc, ◌+◌, ◌<◌, ◌≤◌, ◌==◌, Bool, true, false}
use Rattle.std.proofs.Common.{List, [], ◌∷◌, ◌++◌, flat_map, length, get_or, Contains, All}
use Rattle.std.proofs.Common.{inl, inr, refl, sym, ◌∙◌, ap, subst, arith, if◌then◌else◌}
use Rattle.std.proofs.Common.{IsPermutation}
use Rattle.std.specs.List.{range_with_len}
use Rattle.std.specs.List.Sorted.{IsStrictlyIncreasing}
use Rattle.std.proofs.lemmas.Bool.{cases_eq, eq-eqb, ne_eqb}
use Rattle.std.proofs.lemmas.List.Elements.{All-head, All-tail, All-weaker}
use Rattle.std.proofs.lemmas.List.Sorted.{IsPermutation-append_right, IsPermutation-cons}
use Rattle.std.proofs.lemmas.List.Sorted.{IsPermutation-middle, IsPermutation-refl}
use Rattle.std.proofs.lemmas.List.Sorted.{IsPermutation-sym, IsPermutation-trans}
use Rattle.mail_rule.specs.Items.{positions_of}
use Rattle.mail_rule.proofs.Letters.{positions_within}

-- One number has a position more than the lists of all numbers have without it.

module _ (rest : ℕ → List ℕ) (one position : ℕ) where
  abbrev more : ℕ → List ℕ
  more who = if one == who then position ∷ rest who else rest who

  more_here : (who : ℕ) → one ≡ who → more who ≡ position ∷ rest who
  more_here who same =
      ap (λ (here : Bool). if here then position ∷ rest who else rest who) (eq-eqb one who same)

  more_else : (who : ℕ) → one ≢ who → more who ≡ rest who
  more_else who other =
      ap (λ (here : Bool). if here then position ∷ rest who else rest who) (ne_eqb one who other)

  none_more : (first many : ℕ) → one < first
      → flat_map more (range_with_len first many) ≡ flat_map rest (range_with_len first many)
  none_more first zero low = refl
  none_more first (suc many) low =
      ap (λ (ns : List ℕ). ns ++ flat_map more (range_with_len (first + 1) many))
      (more_else first (λ e. omega (arith, low, e)))
      ∙ ap (λ (ns : List ℕ). rest first ++ ns)
      (none_more (first + 1) many (omega (arith, low)))

  one_more : (first many : ℕ) → first ≤ one → one < first + many
      → IsPermutation (position ∷ flat_map rest (range_with_len first many))
      (flat_map more (range_with_len first many))
  one_more first zero low high = absurd (omega (arith, low, high))
  one_more first (suc many) low high = elim (cases_eq one first) [
    | inl same ↦
        subst (λ (ns : List ℕ). IsPermutation
        (position ∷ (rest first ++ flat_map rest (range_with_len (first + 1) many))) ns)
        (sym (ap (λ (ns : List ℕ). ns ++ flat_map more (range_with_len (first + 1) many))
        (more_here first same)
        ∙ ap (λ (ns : List ℕ). position ∷ (rest first ++ ns))
        (none_more (first + 1) many (omega (arith, same)))))
        (IsPermutation-refl
        (position ∷ (rest first ++ flat_map rest (range_with_len (first + 1) many))))
    | inr other ↦
        let later = flat_map rest (range_with_len (first + 1) many) in
        let above : first + 1 ≤ one = over first one low other in
        let below : one < first + 1 + many = omega (arith, high) in
        subst (λ (ns : List ℕ). IsPermutation (position ∷ (rest first ++ later))
        (ns ++ flat_map more (range_with_len (first + 1) many))) (sym (more_else first other))
        (IsPermutation-trans (position ∷ (rest first ++ later))
        (rest first ++ position ∷ later)
        (rest first ++ flat_map more (range_with_len (first + 1) many))
        (IsPermutation-sym (rest first ++ position ∷ later)
        (position ∷ (rest first ++ later))
        (IsPermutation-middle (rest first) position later))
        (IsPermutation-append_right (rest first) (position ∷ later)
        (flat_map more (range_with_len (first + 1) many))
        (one_more (first + 1) many above below)))
  ]
    where
      over : (first one : ℕ) → first ≤ one → one ≢ first → first + 1 ≤ one
      over first one low other = elim (cases_eq one first) [
        | inl same ↦ absurd (other same)
        | inr apart ↦ omega (arith, low, apart)
      ]

abbrev nothing : ℕ → List ℕ
nothing who = []

none_there : (first many : ℕ) → flat_map nothing (range_with_len first many) ≡ []
none_there first zero = refl
none_there first (suc many) = none_there (first + 1) many

-- the positions of these numbers in a list that has no others are all positions
pub each_once : (first many position : ℕ) (xs : List ℕ)
    → All (λ (one : ℕ). (first ≤ one) × (one < first + many)) xs
    → IsPermutation (range_with_len position (length xs))
    (flat_map (λ (who : ℕ). positions_of who position xs) (range_with_len first many))
each_once first many position [] all =
    subst (λ (ns : List ℕ). IsPermutation [] ns) (sym (none_there first many))
    (IsPermutation-refl [])
each_once first many position (x ∷ xs) all =
    let rest : ℕ → List ℕ = (λ (who : ℕ). positions_of who (position + 1) xs) in
    let here = All-head (λ (one : ℕ). (first ≤ one) × (one < first + many)) x xs all in
    IsPermutation-trans (position ∷ range_with_len (position + 1) (length xs))
    (position ∷ flat_map rest (range_with_len first many))
    (flat_map (λ (who : ℕ). positions_of who position (x ∷ xs)) (range_with_len first many))
    (IsPermutation-cons position (range_with_len (position + 1) (length xs))
    (flat_map rest (range_with_len first many))
    (each_once first many (position + 1) xs
    (All-tail (λ (one : ℕ). (first ≤ one) × (one < first + many)) x xs all)))
    (one_more rest x position first many here.0 here.1)

-- Positions rise.

rising_cons : (n : ℕ) (ns : List ℕ) → All (λ (m : ℕ). n < m) ns → IsStrictlyIncreasing ns
    → IsStrictlyIncreasing (n ∷ ns)
rising_cons n ns above rise zero lt = above 0 0 (omega (arith, lt))
rising_cons n ns above rise (suc k) lt =
    subst (λ (next : ℕ). get_or ns k 0 < get_or (n ∷ ns) next 0)
    (let e : suc (k + 1) ≡ suc k + 1 = omega arith in e) (rise k (omega (arith, lt)))

rising_by : (here : Bool) (n : ℕ) (ns : List ℕ) → All (λ (m : ℕ). n < m) ns
    → IsStrictlyIncreasing ns
    → IsStrictlyIncreasing (if here then n ∷ ns else ns)
rising_by true n ns above rise = rising_cons n ns above rise
rising_by false n ns above rise = rise

pub positions_rise : (who position : ℕ) (xs : List ℕ)
    → IsStrictlyIncreasing (positions_of who position xs)
positions_rise who position [] = λ k lt. absurd (omega (arith, lt))
positions_rise who position (x ∷ xs) =
    rising_by (x == who) position (positions_of who (position + 1) xs)
    (All-weaker (λ (n : ℕ). (position + 1 ≤ n) × (n < position + 1 + length xs))
    (λ (n : ℕ). position < n) (λ n is. let le = is.0 in omega (arith, le))
    (positions_of who (position + 1) xs) (positions_within who (position + 1) xs))
    (positions_rise who (position + 1) xs)

-- Who stands at a position has it.

has_by : (here : Bool) (n p : ℕ) (ns : List ℕ) → Contains ns n
    → Contains (if here then p ∷ ns else ns) n
has_by true n p ns has = (suc has.0, (let lt = has.1 in omega (arith, lt)), has.2)
has_by false n p ns has = has

pub positions_has : (position k d : ℕ) (xs : List ℕ) → k < length xs
    → Contains (positions_of (get_or xs k d) position xs) (position + k)
positions_has position k d [] lt = absurd (omega (arith, lt))
positions_has position zero d (x ∷ xs) lt =
    subst (λ (n : ℕ). Contains (positions_of x position (x ∷ xs)) n)
    (let e : position ≡ position + 0 = omega arith in e)
    (subst (λ (here : Bool). Contains
    (if here then position ∷ positions_of x (position + 1) xs else positions_of x (position + 1) xs)
    position) (sym (eq-eqb x x refl)) (0, omega arith, refl))
positions_has position (suc k) d (x ∷ xs) lt =
    has_by (x == get_or xs k d) (position + suc k) position
    (positions_of (get_or xs k d) (position + 1) xs)
    (subst (λ (n : ℕ). Contains (positions_of (get_or xs k d) (position + 1) xs) n)
    (let e : position + 1 + k ≡ position + suc k = omega arith in e)
    (positions_has (position + 1) k d xs (omega (arith, lt))))
