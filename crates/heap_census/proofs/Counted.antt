-- Counting one number after another.
use Rattle.std.proofs.Common.{◌≡◌, ◌≤◌, ◌+◌, ◌∙◌, ℕ, suc, zero, Bool, true, false, ap}
use Rattle.std.proofs.Common.{add-one, arith}
use Rattle.heap_census.specs.Counts.{count_below, one_if}

pub count_below-add_one : (test : ℕ → Bool) (m : ℕ)
    → count_below test (m + 1) ≡ count_below test m + one_if (test m)
count_below-add_one test m = ap (count_below test) (add-one m)

pub count_yes : (test : ℕ → Bool) (m n : ℕ) → n ≡ count_below test m → test m ≡ true
    → n + 1 ≡ count_below test (m + 1)
count_yes test m n so is =
    let more = count_below-add_one test m in
    let one : one_if (test m) ≡ 1 = ap one_if is in
    omega (arith, so, more, one)

pub count_no : (test : ℕ → Bool) (m n : ℕ) → n ≡ count_below test m → test m ≡ false
    → n ≡ count_below test (m + 1)
count_no test m n so is =
    let more = count_below-add_one test m in
    let none : one_if (test m) ≡ 0 = ap one_if is in
    omega (arith, so, more, none)

one_at_most : (b : Bool) → one_if b ≤ 1
one_at_most true = omega arith
one_at_most false = omega arith

pub count_below-le : (test : ℕ → Bool) (m : ℕ) → count_below test m ≤ m
count_below-le test zero = omega arith
count_below-le test (suc m) =
    let less = count_below-le test m in
    let one = one_at_most (test m) in
    omega (arith, less, one)

-- a count of the numbers below the end of a loop
pub count_all : (test : ℕ → Bool) (m size n : ℕ) → n ≡ count_below test m → m ≤ size → size ≤ m
    → n ≡ count_below test size
count_all test m size n so most least =
    let all : m ≡ size = omega (arith, most, least) in so ∙ ap (count_below test) all
