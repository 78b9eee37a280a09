-- Mutators answer one after the other.
use Rattle.std.proofs.Common.{◌≡◌, ◌+◌, ◌-◌, ◌<◌, ℕ, zero, suc, Bool, true, false, List, [], ◌∷◌}
use Rattle.std.proofs.Common.{◌++◌}
use Rattle.std.specs.List.{list_all}
use Rattle.core_machine.specs.Collector.{nobody_answered}
use Rattle.std.proofs.Common.{length, replicate, slice_set, refl, ◌∙◌, ap, arith}

next_answers : (m : ℕ) (xs : List Bool)
    → slice_set (replicate m true ++ false ∷ xs) m true ≡ replicate (suc m) true ++ xs
next_answers zero xs = refl
next_answers (suc m) xs = ap (λ (ys : List Bool). true ∷ ys) (next_answers m xs)

pub answers_more : (n m : ℕ) → m < n
    → slice_set (replicate m true ++ replicate (n - m) false) m true
    ≡ replicate (m + 1) true ++ replicate (n - (m + 1)) false
answers_more n m lt =
    ap (λ (k : ℕ). slice_set (replicate m true ++ replicate k false) m true) left
    ∙ next_answers m (replicate (n - (m + 1)) false)
    ∙ ap (λ (k : ℕ). replicate k true ++ replicate (n - (m + 1)) false) next
  where
    left : n - m ≡ suc (n - (m + 1))
    left = omega (arith, lt)

    next : suc m ≡ m + 1
    next = omega arith

pub nobody_of : (xs : List Bool) → nobody_answered xs ≡ replicate (length xs) false
nobody_of [] = refl
nobody_of (x ∷ xs) = ap (λ (ys : List Bool). false ∷ ys) (nobody_of xs)

-- where there are so many answers
pub nobody_now : (xs : List Bool) (n : ℕ) → length xs ≡ n → nobody_answered xs ≡ replicate n false
nobody_now xs n is = nobody_of xs ∙ ap (λ (k : ℕ). replicate k false) is

pub all_now : (n : ℕ) → list_all (λ (answered : Bool). answered) (replicate n true) ≡ true
all_now zero = refl
all_now (suc n) = all_now n
