-- How many of the first numbers are such.
-- Source: this project's.
use Rattle.std.specs.Prelude.{ℕ, zero, suc, ◌≡◌, ◌+◌, ◌<◌, ◌↔◌, Bool, true, false}

abbrev pub one_if : Bool → ℕ
one_if true = 1
one_if false = 0

-- how many numbers below m pass the test
abbrev pub count_below : (ℕ → Bool) → ℕ → ℕ
count_below test zero = 0
count_below test (suc m) = count_below test m + one_if (test m)

-- n of the numbers below m have the property
pub record IsCountOf (Has : ℕ → Type 0) (m n : ℕ) : Type 0 where
  pub test : ℕ → Bool
  pub tells : (c : ℕ) → c < m → (test c ≡ true) ↔ Has c
  pub counts : n ≡ count_below test m
