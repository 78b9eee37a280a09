-- Lists that are read by index: what is so at each index, of one list and of two.
use Rattle.std.proofs.Common.{◌≡◌, ℕ, zero, suc, ◌+◌, ◌<◌, ◌≤◌, List, []}
use Rattle.std.proofs.Common.{◌∷◌, length, map, flat_map, get_or}
use Rattle.std.proofs.Common.{refl, sym, ◌∙◌, ap, arith}
use Rattle.std.specs.List.{AllZip, sum_by}
use Rattle.std.proofs.lemmas.List.{length-append}
use Rattle.std.proofs.lemmas.List.Sums.{sum_by-cons}
use mathlib.Core.Option.{some, some-injective, some-ne-none}
use lib.ListN.{get_elem?}
use Rattle.doc_model.specs.Agreement.{rising}

module _ {A : Type 0} where
  pub at_below : (xs : List A) (i : ℕ) (x : A) → get_elem? xs i ≡ some x → i < length xs
  at_below [] i x at = absurd (some-ne-none x (sym at))
  at_below (a ∷ xs) zero x at = omega arith
  at_below (a ∷ xs) (suc i) x at = let below = at_below xs i x at in omega (arith, below)

  pub at_there : (xs : List A) (i : ℕ) → i < length xs
      → (x : A) × (get_elem? xs i ≡ some x)
  at_there [] i below = absurd (omega (arith, below))
  at_there (a ∷ xs) zero below = (a, refl)
  at_there (a ∷ xs) (suc i) below = at_there xs i (omega (arith, below))

  pub at_read : (xs : List A) (i : ℕ) (x d : A) → get_elem? xs i ≡ some x
      → get_or xs i d ≡ x
  at_read [] i x d at = absurd (some-ne-none x (sym at))
  at_read (a ∷ xs) zero x d at = some-injective a x at
  at_read (a ∷ xs) (suc i) x d at = at_read xs i x d at

  -- one index has one element
  pub at_once : (xs : List A) (i : ℕ) (x y : A) → get_elem? xs i ≡ some x
      → get_elem? xs i ≡ some y → x ≡ y
  at_once xs i x y one other = some-injective x y (sym one ∙ other)

  -- numbers that rise with the index
  pub rising_at : (f : A → ℕ) (xs : List A) (n : ℕ)
      → ((i : ℕ) (x : A) → get_elem? xs i ≡ some x → f x ≡ n + (i + 1))
      → map f xs ≡ rising n (length xs)
  rising_at f [] n each = refl
  rising_at f (x ∷ xs) n each =
      let first : f x ≡ n + 1 = each zero x refl in
      let rest : map f xs ≡ rising (n + 1) (length xs) =
      rising_at f xs (n + 1) (λ i y at.
      let is = each (suc i) y at in omega (arith, is)) in
      ap (λ (m : ℕ). m ∷ map f xs) first ∙ ap (λ (ms : List ℕ). (n + 1) ∷ ms) rest

module _ {A B : Type 0} where
  pub zip_at : (R : A → B → Type 0) (xs : List A) (ys : List B) → length xs ≡ length ys
      → ((i : ℕ) (x : A) (y : B) → get_elem? xs i ≡ some x
      → get_elem? ys i ≡ some y → R x y)
      → AllZip R xs ys
  zip_at R [] [] same each = tt
  zip_at R [] (y ∷ ys) same each = absurd (omega (arith, same))
  zip_at R (x ∷ xs) [] same each = absurd (omega (arith, same))
  zip_at R (x ∷ xs) (y ∷ ys) same each = (
    each zero x y refl refl,
    zip_at R xs ys (omega (arith, same)) (λ i a b. each (suc i) a b),
  )

  -- lists that are no longer than these numbers are together no longer than their sum
  pub all_within : (f : A → List ℕ) (g : B → ℕ) (xs : List A) (ys : List B)
      → AllZip (λ x y. length (f x) ≤ g y) xs ys → length (flat_map f xs) ≤ sum_by g ys
  all_within f g [] [] each = omega arith
  all_within f g [] (y ∷ ys) each = absurd each
  all_within f g (x ∷ xs) [] each = absurd each
  all_within f g (x ∷ xs) (y ∷ ys) each =
      let first = each.0 in
      let rest = all_within f g xs ys each.1 in
      let both = length-append (f x) (flat_map f xs) in
      let sum = sum_by-cons g y ys in
      omega (arith, first, rest, both, sum)
