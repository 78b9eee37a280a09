-- The height of a balanced tree against the number of its entries: at most `MOST_LEVELS` for
-- `MOST_CHILDREN` of them.
use Rattle.std.proofs.Common.{◌≡◌, ℕ, zero, suc, ◌+◌, ◌≤◌, max, refl, arith, subst}
use Rattle.std.proofs.Common.{inl, inr}
use Rattle.std.specs.Prelude.{◌⊎◌}
use Rattle.doc_tree.specs.declared.tree.TheConstants.Tree.{MOST_CHILDREN}
use Rattle.doc_tree.specs.Tree.{kid, kid_count}
use Rattle.doc_tree.proofs.Joined.{count_join}
use Rattle.kids_avl.specs.declared.bounds.TheConstants.{MOST_LEVELS}
use Rattle.kids_avl.specs.Entries.{Entries, no_entries, entry, left_of, right_of}
use Rattle.kids_avl.specs.Entries.{IsEntry, IsBalanced, kids_of, height_of}

-- the fewest entries that a balanced tree of a height has
abbrev fewest : ℕ → ℕ
fewest zero = 0
fewest (suc zero) = 1
fewest (suc (suc n)) = fewest (suc n) + fewest n + 1

fewest_rises : (n m : ℕ) → n ≤ m → fewest n ≤ fewest m
fewest_rises zero m h = omega arith
fewest_rises (suc n) zero h = absurd (omega (arith, h))
fewest_rises (suc zero) (suc zero) h = omega arith
fewest_rises (suc zero) (suc (suc m)) h = omega arith
fewest_rises (suc (suc n)) (suc zero) h = absurd (omega (arith, h))
fewest_rises (suc (suc n)) (suc (suc m)) h =
    omega (
      arith,
      fewest_rises (suc n) (suc m) (omega (arith, h)),
      fewest_rises n m (omega (arith, h)),
    )

-- an entry over two sides of nearly one height
fewest_over : (a b m : ℕ) → m ≡ max a b → a ≤ b + 1 → b ≤ a + 1
    → fewest (suc m) ≤ fewest a + fewest b + 1
fewest_over a b zero e left right = omega arith
fewest_over a b (suc m) e left right =
    let sides : ((suc m ≤ a) × (m ≤ b)) ⊎ ((m ≤ a) × (suc m ≤ b)) = grind (arith, e, left, right) in
    elim sides [
      | inl h ↦ omega (arith, fewest_rises (suc m) a h.0, fewest_rises m b h.1)
      | inr h ↦ omega (arith, fewest_rises m a h.0, fewest_rises (suc m) b h.1)
    ]

fewest_above : (a b k : ℕ) → k ≡ max a b + 1 → a ≤ b + 1 → b ≤ a + 1
    → fewest k ≤ fewest a + fewest b + 1
fewest_above a b k e left right =
    let P : ℕ → Type 0 = λ k. fewest k ≤ fewest a + fewest b + 1 in
    let same : suc (max a b) ≡ k = omega (arith, e) in
    subst P same (fewest_over a b (max a b) refl left right)

fewest_entries : (t : Entries) → IsBalanced t → fewest (height_of t) ≤ kid_count (kids_of t)
fewest_entries no_entries balanced = omega arith
fewest_entries (entry n d l r) balanced =
    omega (
      arith,
      fewest_above (height_of l) (height_of r) (max (height_of l) (height_of r) + 1) refl
          balanced.0 balanced.1,
      fewest_entries l balanced.2,
      fewest_entries r balanced.3,
      count_join (kids_of l) (kid n d.text d.kids (kids_of r)),
    )

-- 12 is one more than `MOST_LEVELS`: so many levels would be more than `MOST_CHILDREN` entries
pub at_most_levels : (t : Entries) → IsBalanced t → kid_count (kids_of t) ≤ MOST_CHILDREN
    → height_of t ≤ MOST_LEVELS
at_most_levels t balanced few =
    grind (arith, fewest_rises 12 (height_of t), fewest_entries t balanced, few)

pub left_lower : (t : Entries) → IsEntry t → height_of (left_of t) + 1 ≤ height_of t
left_lower no_entries is = absurd is
left_lower (entry n d l r) is = omega arith

pub right_lower : (t : Entries) → IsEntry t → height_of (right_of t) + 1 ≤ height_of t
right_lower no_entries is = absurd is
right_lower (entry n d l r) is = omega arith

pub entry_high : (t : Entries) → IsEntry t → 1 ≤ height_of t
entry_high no_entries is = absurd is
entry_high (entry n d l r) is = omega arith

pub entry_counts : (t : Entries) → IsEntry t → 1 ≤ kid_count (kids_of t)
entry_counts no_entries is = absurd is
entry_counts (entry n d l r) is =
    omega (arith, count_join (kids_of l) (kid n d.text d.kids (kids_of r)))

pub ruleset lower = (left_lower, right_lower)
