-- A list of numbers that does not fall, and that has as many numbers up to any u as there are from
-- the first one on, is the row of these.
use Rattle.std.proofs.Common.{◌≡◌, ℕ, zero, suc, ◌+◌, ◌-◌, ◌<◌, ◌≤◌, Bool, true, false, nat_le}
use Rattle.std.proofs.Common.{List, [], ◌∷◌, length, get_or, sum_by, IsPermutation, refl, sym}
use Rattle.std.proofs.Common.{◌∙◌, ⊎_elim, arith}
use Rattle.std.proofs.lemmas.Bool.{cases_lt}
use Rattle.std.proofs.lemmas.Bool.Decides.{nat_tests}
use Rattle.std.proofs.lemmas.List.Sums.{sum_by-cons}
use Rattle.std.proofs.lemmas.List.Sorted.{sum_by-IsPermutation}
use Rattle.doc_model.specs.Agreement.{rising}

abbrev pub one_if : Bool → ℕ
one_if true = 1
one_if false = 0

-- how many of the numbers are at most u
abbrev pub low : ℕ → List ℕ → ℕ
low u [] = 0
low u (n ∷ ns) = one_if (nat_le n u) + low u ns

abbrev pub AtLeast : ℕ → List ℕ → Type 0
AtLeast n [] = Unit {0}
AtLeast n (m ∷ ms) = (n ≤ m) × AtLeast n ms

abbrev pub NeverFalls : List ℕ → Type 0
NeverFalls [] = Unit {0}
NeverFalls (n ∷ ns) = AtLeast n ns × NeverFalls ns

one_below : (n u : ℕ) → n ≤ u → one_if (nat_le n u) ≡ 1
one_below n u h = grind (arith, nat_tests)

none_above : (n u : ℕ) → u < n → one_if (nat_le n u) ≡ 0
none_above n u h = grind (arith, nat_tests)

low_none : (u n : ℕ) (ns : List ℕ) → u < n → AtLeast n ns → low u ns ≡ 0
low_none u n [] lt above = refl
low_none u n (m ∷ ns) lt above =
    let later : u < m = omega (arith, above.0) in
    omega (arith, none_above m u later, low_none u n ns lt above.1)

-- the first number of the list
not_below : (i n : ℕ) (ns : List ℕ) → low i (n ∷ ns) ≡ 0 → i < n
not_below i n ns none =
    ⊎_elim (λ lt. lt) (λ le. absurd (omega (arith, one_below n i le))) (cases_lt i n)

not_above : (i n : ℕ) (ns : List ℕ) → AtLeast n ns → low i (n ∷ ns) ≡ 1 → n ≤ i
not_above i n ns above one =
    ⊎_elim (λ lt. let all : AtLeast n (n ∷ ns) =
    (omega arith, above) in absurd (omega (arith, low_none i n (n ∷ ns) lt all))) (λ le. le)
    (cases_lt i n)

pub is_rising : (i k : ℕ) (ns : List ℕ) → length ns ≡ k → NeverFalls ns
    → ((u : ℕ) → i ≤ u → u ≤ i + k → low u ns ≡ u - i) → ns ≡ rising i k
is_rising i zero [] len up count = refl
is_rising i zero (n ∷ ns) len up count = absurd (omega arith)
is_rising i (suc k) [] len up count = absurd (omega arith)
is_rising i (suc k) (n ∷ ns) len up count =
    let above : i < n = not_below i n ns (count i (omega arith) (omega arith) ∙ omega arith) in
    let below : n ≤ i + 1 = not_above (i + 1) n ns up.0
    (count (i + 1) (omega arith) (omega arith) ∙ omega arith) in
    let first : n ≡ i + 1 = omega arith in
    let rest : ns ≡ rising (i + 1) k =
    is_rising (i + 1) k ns (omega arith) up.1
    (λ u lo hi. omega (
      arith,
      count u (omega arith) (omega arith),
      one_below n u (omega arith),
    )) in
    cc

above_rising : (n i k : ℕ) → n ≤ i + 1 → AtLeast n (rising i k)
above_rising n i zero h = tt
above_rising n i (suc k) h = (h, above_rising n (i + 1) k (omega arith))

pub low-rising : (i k u : ℕ) → i ≤ u → u ≤ i + k → low u (rising i k) ≡ u - i
low-rising i zero u lo hi = omega arith
low-rising i (suc k) u lo hi =
    ⊎_elim (λ lt. omega (
      arith,
      one_below (i + 1) u (omega arith),
      low-rising (i + 1) k u (omega arith) (omega arith),
    ))
    (λ le. omega (
      arith,
      low_none u (i + 1) (rising i (suc k)) (omega arith)
          (above_rising (i + 1) i (suc k) (omega arith)),
    )) (cases_lt i u)

pub length-rising : (i k : ℕ) → length (rising i k) ≡ k
length-rising i zero = refl
length-rising i (suc k) = omega (arith, length-rising (i + 1) k)

pub get_or-rising : (i k j d : ℕ) → j < k → get_or (rising i k) j d ≡ i + j + 1
get_or-rising i zero j d lt = absurd (omega arith)
get_or-rising i (suc k) zero d lt = omega arith
get_or-rising i (suc k) (suc j) d lt = omega (arith, get_or-rising (i + 1) k j d (omega arith))

low-sum_by : (u : ℕ) (ns : List ℕ) → low u ns ≡ sum_by (λ n. one_if (nat_le n u)) ns
low-sum_by u [] = refl
low-sum_by u (n ∷ ns) =
    omega (arith, low-sum_by u ns, sum_by-cons (λ (m : ℕ). one_if (nat_le m u)) n ns)

pub low-permutation : (u : ℕ) (ms ns : List ℕ) → IsPermutation ms ns → low u ns ≡ low u ms
low-permutation u ms ns same =
    low-sum_by u ns ∙ sum_by-IsPermutation (λ (n : ℕ). one_if (nat_le n u)) ms ns same
    ∙ sym (low-sum_by u ms)
