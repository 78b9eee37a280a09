-- What a filter keeps of a list is, in numbers and in facts, what it keeps of any rearrangement.
use Rattle.std.proofs.Common.{◌≡◌, ℕ, ◌+◌, Bool, true, false, cond, nat_le, List, [], ◌∷◌, length}
use Rattle.std.proofs.Common.{map, filter, sum_by, All, IsPermutation, refl, sym, ◌∙◌, arith}
use Rattle.std.proofs.lemmas.List.Sums.{sum_by-cons, length-filter}
use Rattle.std.proofs.lemmas.List.Sorted.{sum_by-IsPermutation, All-permutation}
use Rattle.std.proofs.lemmas.List.Elements.{All-cons, All-head, All-tail, All-nil}
use Rattle.doc_model.proofs.Rising.{low, one_if}

module _ {X : Type 0} (p : X → Bool) where
  low_kept : (f : X → ℕ) (u : ℕ) (xs : List X)
      → low u (map f (filter p xs)) ≡ sum_by (λ x. cond (p x) (one_if (nat_le (f x) u)) 0) xs
  low_kept f u [] = refl
  low_kept f u (x ∷ xs) =
      let one : X → ℕ = λ y. cond (p y) (one_if (nat_le (f y) u)) 0 in
      let split : low u (map f (cond (p x) (x ∷ filter p xs) (filter p xs)))
      ≡ cond (p x) (one_if (nat_le (f x) u)) 0 + low u (map f (filter p xs)) =
      elim (p x) as (λ b. low u (map f (cond b (x ∷ filter p xs) (filter p xs)))
      ≡ cond b (one_if (nat_le (f x) u)) 0 + low u (map f (filter p xs))) [
        | true ↦ refl
        | false ↦ omega arith
      ] in
      omega (arith, split, low_kept f u xs, sum_by-cons one x xs)

  pub low-kept : (f : X → ℕ) (u : ℕ) (xs ys : List X) → IsPermutation xs ys
      → low u (map f (filter p ys)) ≡ low u (map f (filter p xs))
  low-kept f u xs ys same =
      low_kept f u ys ∙ sum_by-IsPermutation
      (λ x. cond (p x) (one_if (nat_le (f x) u)) 0) xs ys same ∙ sym (low_kept f u xs)

  pub length-kept : (xs ys : List X) → IsPermutation xs ys
      → length (filter p ys) ≡ length (filter p xs)
  length-kept xs ys same =
      length-filter p ys ∙ sum_by-IsPermutation (λ x. cond (p x) 1 0) xs ys same
      ∙ sym (length-filter p xs)

  where_kept : (P : X → Type 0) (xs : List X) → All P (filter p xs) → All (λ x. p x ≡ true → P x) xs
  where_kept P [] all = All-nil (λ x. p x ≡ true → P x)
  where_kept P (x ∷ xs) all =
      let both : (p x ≡ true → P x) × All P (filter p xs) =
      elim (p x) as (λ b. All P (cond b (x ∷ filter p xs) (filter p xs))
      → (b ≡ true → P x) × All P (filter p xs)) [
        | true ↦ λ all. (λ _. All-head P x (filter p xs) all, All-tail P x (filter p xs) all)
        | false ↦ λ all. (λ e. cc, all)
      ] all in
      All-cons (λ y. p y ≡ true → P y) x xs both.0 (where_kept P xs both.1)

  kept_where : (P : X → Type 0) (xs : List X) → All (λ x. p x ≡ true → P x) xs → All P (filter p xs)
  kept_where P [] all = All-nil P
  kept_where P (x ∷ xs) all =
      let rest = kept_where P xs (All-tail (λ y. p y ≡ true → P y) x xs all) in
      elim (p x) as (λ b. (b ≡ true → P x) → All P (cond b (x ∷ filter p xs) (filter p xs))) [
        | true ↦ λ h. All-cons P x (filter p xs) (h refl) rest
        | false ↦ λ h. rest
      ] (All-head (λ y. p y ≡ true → P y) x xs all)

  pub All-kept : (P : X → Type 0) (xs ys : List X) → IsPermutation xs ys → All P (filter p xs)
      → All P (filter p ys)
  All-kept P xs ys same all =
      kept_where P ys (All-permutation (λ x. p x ≡ true → P x) xs ys same (where_kept P xs all))
