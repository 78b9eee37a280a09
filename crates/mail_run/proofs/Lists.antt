-- Numbers in a row, and what is made of them.
use Rattle.std.proofs.Common.{◌≡◌, ℕ, zero, suc, ◌+◌, ◌<◌, ◌≤◌, List, [], ◌∷◌, ◌++◌, All, Contains}
use Rattle.std.proofs.Common.{map as mapped, refl, sym, ◌∙◌, ap, subst, arith}
use Rattle.std.specs.List.{range_with_len}
use Rattle.std.proofs.lemmas.List.{map-append}
use Rattle.std.proofs.lemmas.List.Elements.{All-cons, All-map, All-nil}

-- two parts of a row
pub row_parts : (first one other : ℕ)
    → range_with_len first (one + other)
    ≡ range_with_len first one ++ range_with_len (first + one) other
row_parts first zero other =
    ap (λ (k : ℕ). range_with_len first k) (let e : 0 + other ≡ other = omega arith in e)
    ∙ ap (λ (k : ℕ). range_with_len k other) (let e : first ≡ first + 0 = omega arith in e)
row_parts first (suc one) other =
    ap (λ (k : ℕ). range_with_len first k)
    (let e : suc one + other ≡ suc (one + other) = omega arith in e)
    ∙ ap (λ (ns : List ℕ). first ∷ ns)
    (row_parts (first + 1) one other
    ∙ ap (λ (k : ℕ). range_with_len (first + 1) one ++ range_with_len k other)
    (let e : first + 1 + one ≡ first + suc one = omega arith in e))

-- what holds of each number of a row
pub all_in_row : (P : ℕ → Type 0) (first many : ℕ)
    → ((n : ℕ) → first ≤ n → n < first + many → P n) → All P (range_with_len first many)
all_in_row P first zero each = All-nil P
all_in_row P first (suc many) each =
    All-cons P first (range_with_len (first + 1) many)
    (each first (omega arith) (omega arith))
    (all_in_row P (first + 1) many (λ n low lt. each n (omega (arith, low)) (omega (arith, lt))))

module _ {B : Type 0} (f : ℕ → B) where
  -- what is made of a row, in two parts
  pub made_parts : (first one other : ℕ)
      → mapped f (range_with_len first one) ++ mapped f (range_with_len (first + one) other)
      ≡ mapped f (range_with_len first (one + other))
  made_parts first one other =
      sym (ap (mapped f) (row_parts first one other)
      ∙ map-append f (range_with_len first one) (range_with_len (first + one) other))

  -- what holds of the image of each number of a row holds of each element
  pub each_made : (P : B → Type 0) (first many : ℕ)
      → ((n : ℕ) → first ≤ n → n < first + many → P (f n))
      → (b : B) → Contains (mapped f (range_with_len first many)) b → P b
  each_made P first many each b has =
      subst P has.2
      (All-map P f (range_with_len first many)
      (all_in_row (λ (n : ℕ). P (f n)) first many each) has.0 b has.1)

  -- the numbers, back from what was made of them
  pub made_back : (g : B → ℕ) → ((n : ℕ) → g (f n) ≡ n) → (ns : List ℕ)
      → mapped g (mapped f ns) ≡ ns
  made_back g back [] = refl
  made_back g back (n ∷ ns) =
      ap (λ (k : ℕ). k ∷ mapped g (mapped f ns)) (back n)
      ∙ ap (λ (ks : List ℕ). n ∷ ks) (made_back g back ns)
