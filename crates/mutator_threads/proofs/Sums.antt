-- Sums over all passes, where one of them grows, and over what all workers have.
use Rattle.std.proofs.Common.{◌≡◌, ◌≤◌, ◌<◌, ◌+◌, ℕ, zero, suc, List, [], ◌∷◌, length}
use Rattle.std.proofs.Common.{All, ap, refl, arith, slice_set, take}
use Rattle.std.specs.Prelude.{slice_index_or, sum_by}
use Rattle.std.proofs.lemmas.List.Sums.{sum_by-le, sum_by-set, sum_by_more_le}
use mathlib.Core.Option.{some, some-injective}
use lib.ListN.{get_elem?}

module _ {P : Type 0} where
  within : (passes : List P) (i : ℕ) (p : P) → get_elem? passes i ≡ some p → i < length passes
  within [] i p at = absurd cc
  within (x ∷ xs) zero p at = omega arith
  within (x ∷ xs) (suc i) p at = let rest = within xs i p at in omega (arith, rest)

  there : (passes : List P) (i : ℕ) (p : P) → get_elem? passes i ≡ some p
      → slice_index_or passes i p ≡ p
  there [] i p at = refl
  there (x ∷ xs) zero p at = some-injective x p at
  there (x ∷ xs) (suc i) p at = there xs i p at

  -- one more in one of them is one more in all
  pub sum_grows : (of : P → ℕ) (passes : List P) (i : ℕ) (p q : P) → get_elem? passes i ≡ some p
      → of q ≡ of p + 1 → sum_by of (slice_set passes i q) ≡ sum_by of passes + 1
  sum_grows of passes i p q at one =
      let all = sum_by-set of passes i q p (within passes i p at) in
      let was : of (slice_index_or passes i p) ≡ of p = ap of (there passes i p at) in
      omega (arith, all, was, one)

-- the sum of fewer than 2^32 numbers below 2^32 is below 2^64, and so is each step towards it
pub sum_fits : {A : Type 0} (of : A → ℕ) (xs : List A) (i : ℕ) (d : A) → length xs ≤ 4294967295
    → All (λ (x : A). of x ≤ 4294967295) xs → i < length xs
    → sum_by of (take i xs) + of (slice_index_or xs i d) < 18446744073709551616
sum_fits of xs i d few small lt =
    let part = sum_by_more_le of xs i d lt in
    let all = sum_by-le of 4294967295 xs small in
    omega (arith, part, all, few)
