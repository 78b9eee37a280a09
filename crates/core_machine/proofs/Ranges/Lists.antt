-- Lists: what a write leaves, places of held lists, and how many cells are blue.
use Rattle.std.proofs.Common.{◌≡◌, ℕ, zero, suc, ◌+◌, ◌<◌, ◌≤◌, Bool, true, false, cond, List, []}
use Rattle.std.proofs.Common.{◌∷◌, ◌++◌, length, map, take, drop, get_or, set, refl, sym, ap, subst}
use Rattle.std.proofs.Common.{arith}
use Rattle.std.specs.List.{count_by}
use Rattle.std.proofs.lemmas.List.Sums.{sum_by-set}
use Rattle.cell_words.specs.declared.colours.Colour.{Colour}
use Rattle.cell_words.specs.declared.colours.Colour.TheVariants as colour
use Rattle.core_machine.specs.declared.places.Held.{Held}
use Rattle.core_machine.specs.Places.{cell_at}
use Rattle.core_machine.specs.State.{colour_in}
use Rattle.core_machine.specs.Words.{is_blue}

-- what holds of the element that is read, and of a new one where it is read, holds after the write
pub set_cases : {X : Type 0} (P : X → Type 0) (xs : List X) (i j : ℕ) (y d : X)
    → (j ≡ i → i < length xs → P y) → P (get_or xs j d) → P (get_or (set xs i y) j d)
set_cases P [] i j y d here there = there
set_cases P (x ∷ xs) zero zero y d here there = here refl (omega arith)
set_cases P (x ∷ xs) zero (suc j) y d here there = there
set_cases P (x ∷ xs) (suc i) zero y d here there = there
set_cases P (x ∷ xs) (suc i) (suc j) y d here there =
    set_cases P xs i j y d (λ is within. here (ap suc is) (omega arith)) there

-- Held lists: every place has a cell below n. Past the end stands cell 0.

abbrev pub Below : ℕ → List Held → Type 0
Below n held = (place : ℕ) → cell_at held place < n

pub below-none : (n : ℕ) → 0 < n → Below n []
below-none n some place = some

pub below-cons : (n : ℕ) (place : Held) (held : List Held) → place.cell < n → Below n held
    → Below n (place ∷ held)
below-cons n place held first rest zero = first
below-cons n place held first rest (suc k) = rest k

pub below-map : (n : ℕ) (f : Held → Held) → ((place : Held) → (f place).cell ≡ place.cell)
    → (held : List Held) → Below n held → Below n (map f held)
below-map n f same [] below place = below place
below-map n f same (p ∷ ps) below zero = subst (λ (c : ℕ). c < n) (sym (same p)) (below zero)
below-map n f same (p ∷ ps) below (suc k) = below-map n f same ps (λ j. below (suc j)) k

pub below-append : (n : ℕ) (xs ys : List Held) → Below n xs → Below n ys → Below n (xs ++ ys)
below-append n [] ys front back place = back place
below-append n (x ∷ xs) ys front back zero = front zero
below-append n (x ∷ xs) ys front back (suc k) = below-append n xs ys (λ j. front (suc j)) back k

pub below-take : (n k : ℕ) → 0 < n → (xs : List Held) → Below n xs → Below n (take k xs)
below-take n zero some xs below place = some
below-take n (suc k) some [] below place = some
below-take n (suc k) some (x ∷ xs) below zero = below zero
below-take n (suc k) some (x ∷ xs) below (suc j) = below-take n k some xs (λ i. below (suc i)) j

pub below-drop : (n k : ℕ) (xs : List Held) → Below n xs → Below n (drop k xs)
below-drop n zero xs below place = below place
below-drop n (suc k) [] below place = below place
below-drop n (suc k) (x ∷ xs) below place = below-drop n k xs (λ i. below (suc i)) place

-- Blue cells: each counts as one.

abbrev pub weight : Bool → ℕ
weight b = cond b 1 0

weight-le : (b d : Bool) → (b ≡ true → d ≡ true) → weight b ≤ weight d
weight-le false d to = omega arith
weight-le true d to = rw (to refl) (omega arith)

weight-most : (b : Bool) → weight b ≤ 1
weight-most false = omega arith
weight-most true = omega arith

-- a write that makes no other cell blue
pub count-set : (colours : List Colour) (c : ℕ) (x : Colour) → c < length colours
    → (is_blue x ≡ true → is_blue (colour_in colours c) ≡ true)
    → count_by is_blue (set colours c x) ≤ count_by is_blue colours
count-set colours c x within old =
    omega (
      arith,
      sum_by-set (λ y. weight (is_blue y)) colours c x colour.Blue within,
      weight-le (is_blue x) (is_blue (colour_in colours c)) old,
    )

-- a blue cell gets another colour
pub count-set_claimed : (colours : List Colour) (c : ℕ) (x : Colour) → c < length colours
    → is_blue (colour_in colours c) ≡ true → is_blue x ≡ false
    → count_by is_blue (set colours c x) + 1 ≡ count_by is_blue colours
count-set_claimed colours c x within blue other =
    omega (
      arith,
      sum_by-set (λ y. weight (is_blue y)) colours c x colour.Blue within,
      ap weight blue,
      ap weight other,
    )

-- any write makes at most one cell blue
pub count-set_most : (colours : List Colour) (c : ℕ) (x : Colour) → c < length colours
    → count_by is_blue (set colours c x) ≤ count_by is_blue colours + 1
count-set_most colours c x within =
    omega (
      arith,
      sum_by-set (λ y. weight (is_blue y)) colours c x colour.Blue within,
      weight-most
          (is_blue x),
    )
