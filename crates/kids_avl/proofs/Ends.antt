-- What a whole put or removal leaves: order, number and height.
use Rattle.std.proofs.Common.{◌≡◌, ℕ, zero, suc, ◌<◌, ◌≤◌, List, Option, None, Some, sym}
use Rattle.std.proofs.Common.{ap, arith, refl, subst}
use Rattle.doc_tree.specs.declared.tree.TheConstants.Tree.{MOST_CHILDREN}
use Rattle.doc_tree.specs.Tree.{DocTree, Kids, no_kids, kid, kid_count, child, IsRising}
use Rattle.doc_tree.proofs.Rising.{rising_put, room_put, rising_delete, count_delete}
use Rattle.kids_avl.specs.declared.bounds.TheConstants.{MOST_LEVELS}
use Rattle.kids_avl.specs.Changes.{IsPut, IsWithout}
use Rattle.kids_avl.specs.Entries.{Entries, kids_of, height_of, IsEntry, kid_at}
use Rattle.kids_avl.specs.Pool.{under}
use Rattle.kids_avl.proofs.Heights.{at_most_levels, entry_counts}

abbrev Rise : Kids → Type 0
Rise kids = IsRising kids

pub put_rising : (m : List ℕ) (x : DocTree) (t new : Entries) → IsPut m x t new
    → IsRising (kids_of t) → IsRising (kids_of new)
put_rising m x t new put rising = subst Rise (sym put.kids) (rising_put m x (kids_of t) rising)

pub put_few : (m : List ℕ) (x : DocTree) (t new : Entries) → IsPut m x t new
    → (child m (kids_of t) ≡ None → kid_count (kids_of t) < MOST_CHILDREN)
    → kid_count (kids_of t) ≤ MOST_CHILDREN → kid_count (kids_of new) ≤ MOST_CHILDREN
put_few m x t new put room few =
    omega (arith, ap kid_count put.kids, room_put m x (kids_of t) room few)

pub put_high : (m : List ℕ) (x : DocTree) (t new : Entries) → IsPut m x t new
    → (child m (kids_of t) ≡ None → kid_count (kids_of t) < MOST_CHILDREN)
    → kid_count (kids_of t) ≤ MOST_CHILDREN → height_of new ≤ MOST_LEVELS
put_high m x t new put room few =
    at_most_levels new put.balanced (put_few m x t new put room few)

pub without_rising : (m : List ℕ) (t new : Entries) → IsWithout m t new → IsRising (kids_of t)
    → IsRising (kids_of new)
without_rising m t new out rising = subst Rise (sym out.kids) (rising_delete m (kids_of t) rising)

pub without_few : (m : List ℕ) (t new : Entries) → IsWithout m t new
    → kid_count (kids_of t) ≤ MOST_CHILDREN → kid_count (kids_of new) ≤ MOST_CHILDREN
without_few m t new out few =
    omega (arith, ap kid_count out.kids, count_delete m (kids_of t), few)

pub without_high : (m : List ℕ) (t new : Entries) → IsWithout m t new
    → kid_count (kids_of t) ≤ MOST_CHILDREN → height_of new ≤ MOST_LEVELS
without_high m t new out few =
    at_most_levels new out.balanced (without_few m t new out few)

pub some_kids : (t : Entries) → IsEntry t → kids_of t ≡ no_kids → ⊥
some_kids t is none = omega (arith, ap kid_count none, entry_counts t is)

-- an entry or none that has no children is none
pub none_left : {S A : Type 0} (entries : S → A → Entries) (s : S) (o : Option A)
    → ((a : A) → o ≡ Some a → IsEntry (entries s a)) → kids_of (under entries s o) ≡ no_kids
    → o ≡ None
none_left entries s None is gone = refl
none_left entries s (Some a) is gone = absurd (some_kids (entries s a) (is a refl) gone)

-- an index with a child is within the row
pub kid_low : (i : ℕ) (kids : Kids) (x : List ℕ × DocTree) → Some x ≡ kid_at i kids
    → i < kid_count kids
kid_low i no_kids x is = cc
kid_low zero (kid n t inside rest) x is = omega arith
kid_low (suc i) (kid n t inside rest) x is = omega (arith, kid_low i rest x is)

pub ruleset puts = (put_rising, put_few, put_high)

pub ruleset withouts = (without_rising, without_few, without_high)
