-- Counting: the numbers below an end that pass a test, and the cells that are used or free.
use Rattle.std.proofs.Common.{◌≡◌, ◌<◌, ◌≤◌, ◌+◌, ◌==◌, ◌||◌, ◌∙◌}
use Rattle.std.proofs.Common.{ℕ, zero, suc, Bool, true, false, cond, List, [], ◌∷◌, length}
use Rattle.std.proofs.Common.{inl, inr, refl, sym, ap, arith}
use Rattle.std.specs.List.{count_by}
use Rattle.std.proofs.lemmas.Bool.{cases_eq, cases_lt, ne_eqb}
use Rattle.std.proofs.lemmas.List.Sums.{sum_by-cons}
use Rattle.cell_words.specs.declared.colours.Colour.{Colour}
use Rattle.cell_words.specs.declared.colours.Colour.TheVariants as colour
use Rattle.core_machine.specs.InRange.{IsShaped}
use Rattle.core_machine.specs.State.{State, free_count_of}
use Rattle.core_machine.specs.Words.{is_blue}
use Rattle.dlg_core.specs.Sums.{is_used, used_count_of}

-- how much a test adds to a count
abbrev pub one_if : Bool → ℕ
one_if b = cond b 1 0

-- how many numbers below the end pass the test
abbrev pub below : (ℕ → Bool) → ℕ → ℕ
below p zero = 0
below p (suc n) = one_if (p n) + below p n

-- where all from a number on pass, they are as many as those
pub below_all : (p : ℕ → Bool) (from n : ℕ)
    → ((c : ℕ) → from ≤ c → c < n → p c ≡ true) → n ≤ from + below p n
below_all p from zero all = omega arith
below_all p from (suc n) all =
    let before = below_all p from n (λ c low lt. all c low (omega (arith, lt))) in
    one (p n) refl before
  where
    one : (b : Bool) → p n ≡ b → n ≤ from + below p n
        → suc n ≤ from + (one_if (p n) + below p n)
    one true is before = let more : one_if (p n) ≡ 1 = ap one_if is in omega (arith, before, more)
    one false is before = elim (cases_lt from (suc n)) [
      | inl low ↦ absurd (let yes = all n (omega (arith, low)) (omega arith) in
          let no : false ≡ true = sym is ∙ yes in cc)
      | inr high ↦ omega (arith, high)
    ]

-- where one of two tests has to pass, both together are passed as often
pub below_either : (p q r : ℕ → Bool) (n : ℕ) → ((c : ℕ) → p c ≡ (q c || r c))
    → below p n ≤ below q n + below r n
below_either p q r zero is = omega arith
below_either p q r (suc n) is =
    let rest = below_either p q r n is in
    let here : one_if (p n) ≡ one_if (q n || r n) = ap one_if (is n) in
    let most = either (q n) (r n) in
    omega (arith, rest, here, most)
  where
    either : (a b : Bool) → one_if (a || b) ≤ one_if a + one_if b
    either true b = omega arith
    either false b = omega arith

pub below_none : (p : ℕ → Bool) (n : ℕ) → ((c : ℕ) → c < n → p c ≡ false)
    → below p n ≡ 0
below_none p zero none = refl
below_none p (suc n) none =
    let here : one_if (p n) ≡ 0 = ap one_if (none n (omega arith)) in
    let rest = below_none p n (λ c lt. none c (omega (arith, lt))) in
    omega (arith, here, rest)

-- one number at most is this one
pub below_one : (d n : ℕ) → below (λ c. d == c) n ≤ 1
below_one d zero = omega arith
below_one d (suc n) = elim (cases_eq d n) [
  | inl same ↦
      let rest = below_none (λ c. d == c) n
      (λ c lt. ne_eqb d c (λ is. omega (arith, lt, same, is))) in
      let most = at_most (d == n) in
      omega (arith, rest, most)
  | inr other ↦
      let here : one_if (d == n) ≡ 0 = ap one_if (ne_eqb d n other) in
      let rest = below_one d n in
      omega (arith, here, rest)
]
  where
    at_most : (b : Bool) → one_if b ≤ 1
    at_most true = omega arith
    at_most false = omega arith

-- Each cell is blue or not.

free_or_used : (x : Colour) → one_if (is_blue x) + one_if (is_used x) ≡ 1
free_or_used colour.Blue = refl
free_or_used colour.White = refl
free_or_used colour.Gray = refl
free_or_used colour.Black = refl

all_counted : (colours : List Colour)
    → count_by is_blue colours + count_by is_used colours ≡ length colours
all_counted [] = refl
all_counted (x ∷ xs) =
    let here = free_or_used x in
    let rest = all_counted xs in
    let free = sum_by-cons (λ (y : Colour). one_if (is_blue y)) x xs in
    let used = sum_by-cons (λ (y : Colour). one_if (is_used y)) x xs in
    omega (arith, here, rest, free, used)

pub free_and_used : (s : State) → IsShaped s → free_count_of s + used_count_of s ≡ s.cells
free_and_used s shape = all_counted s.colours ∙ shape.cells_fit.colours_fit
