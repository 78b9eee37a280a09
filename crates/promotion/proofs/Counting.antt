-- How many marks are set: as many as the records that are marked, and as the hints that are taken.
use Rattle.std.proofs.Common.{◌≡◌, ◌+◌, ◌<◌, ◌≤◌, ℕ, zero, suc, Bool, true, false, List, [], ◌∷◌}
use Rattle.std.proofs.Common.{length, take, refl, sym, ap, arith}
use Rattle.std.specs.Prelude.{slice_index_or, MatchOption, Option, Some, None}
use Rattle.free_cells.specs.declared.counts.Counts.{Counts}
use Rattle.free_cells.specs.Counts.{none_taken, taken}
use Rattle.minor_heap.specs.Marking.{marked_of}
use Rattle.promotion.specs.Copying.{marked_count}

pub count_is : (n : ℕ) (marks : List Bool) → length (marked_of n marks) ≡ marked_count marks
count_is n [] = refl
count_is n (true ∷ marks) = ap suc (count_is (n + 1) marks)
count_is n (false ∷ marks) = count_is (n + 1) marks

pub count_set : (marks : List Bool) (n : ℕ) → slice_index_or marks n false ≡ true
    → marked_count (take (suc n) marks) ≡ suc (marked_count (take n marks))
count_set [] n is = absurd cc
count_set (true ∷ marks) zero is = refl
count_set (false ∷ marks) zero is = absurd cc
count_set (true ∷ marks) (suc n) is = ap suc (count_set marks n is)
count_set (false ∷ marks) (suc n) is = count_set marks n is

pub count_unset : (marks : List Bool) (n : ℕ) → slice_index_or marks n false ≡ false
    → marked_count (take (suc n) marks) ≡ marked_count (take n marks)
count_unset [] zero is = refl
count_unset [] (suc n) is = refl
count_unset (true ∷ marks) zero is = absurd cc
count_unset (false ∷ marks) zero is = refl
count_unset (true ∷ marks) (suc n) is = ap suc (count_unset marks n is)
count_unset (false ∷ marks) (suc n) is = count_unset marks n is

pub count_some : (marks : List Bool) (n : ℕ) → slice_index_or marks n false ≡ true
    → 0 < marked_count marks
count_some [] n is = absurd cc
count_some (true ∷ marks) n is = omega arith
count_some (false ∷ marks) zero is = absurd cc
count_some (false ∷ marks) (suc n) is = count_some marks n is

pub count_few : (marks : List Bool) (n : ℕ) → marked_count (take n marks) ≤ n
count_few marks zero = omega arith
count_few [] (suc n) = omega arith
count_few (true ∷ marks) (suc n) = let few = count_few marks n in omega (arith, few)
count_few (false ∷ marks) (suc n) = let few = count_few marks n in omega (arith, few)

pub count_none : (marks : List Bool) → ((n : ℕ) → slice_index_or marks n false ≡ true → ⊥)
    → marked_count marks ≡ 0
count_none [] none = refl
count_none (true ∷ marks) none = absurd (none 0 refl)
count_none (false ∷ marks) none = count_none marks (λ n is. none (suc n) is)

-- none of the first n is marked
pub count_before : (marks : List Bool) (n : ℕ)
    → ((k : ℕ) → slice_index_or marks k false ≡ true → n ≤ k) → marked_count (take n marks) ≡ 0
count_before marks zero from = refl
count_before [] (suc n) from = refl
count_before (true ∷ marks) (suc n) from = let l = from 0 refl in absurd (omega (arith, l))
count_before (false ∷ marks) (suc n) from =
    count_before marks n (λ k is. let l = from (suc k) is in omega (arith, l))

-- no record is marked except among the first n
pub count_all : (marks : List Bool) (n : ℕ)
    → ((k : ℕ) → slice_index_or marks k false ≡ true → k < n)
    → marked_count (take n marks) ≡ marked_count marks
count_all [] zero below = refl
count_all [] (suc n) below = refl
count_all (true ∷ marks) zero below = let l = below 0 refl in absurd (omega (arith, l))
count_all (false ∷ marks) zero below =
    sym (count_none marks (λ k is. let l = below (suc k) is in absurd (omega (arith, l))))
count_all (true ∷ marks) (suc n) below =
    ap suc (count_all marks n (λ k is. let l = below (suc k) is in omega (arith, l)))
count_all (false ∷ marks) (suc n) below =
    count_all marks n (λ k is. let l = below (suc k) is in omega (arith, l))

-- a call that takes a hint is counted, whether it finds one or not
pub one_take : (r : Option ℕ) (a b : Counts)
    → MatchOption r (b ≡ none_taken a) (λ cell. b ≡ taken a) → b.takes ≡ a.takes + 1
one_take (Some cell) a b is = ap (λ (c : Counts). c.takes) is
one_take None a b is = ap (λ (c : Counts). c.takes) is
