-- Children that are two rows one after the other: what each definition makes of them.
use Rattle.std.proofs.Common.{◌≡◌, ℕ, ◌+◌, List, ◌∷◌, ◌++◌, None, Some, max, refl, ap, arith}
use Rattle.std.specs.declared.cmp.Ordering.TheVariants.{Less, Equal, Greater}
use Rattle.doc_tree.specs.Edits.{delete_child}
use Rattle.doc_tree.specs.Tree.{DocTree, Kids, no_kids, kid, kid_count, names_of, height_below}
use Rattle.doc_tree.specs.Tree.{name_cmp, by_order, child, put_child, IsAbove, IsRising}
use Rattle.doc_tree.specs.Rows.{join, IsBelow}

pub join_again : (a b c : Kids) → join (join a b) c ≡ join a (join b c)
join_again no_kids b c = refl
join_again (kid m text inside rest) b c = ap (kid m text inside) (join_again rest b c)

pub count_join : (l r : Kids) → kid_count (join l r) ≡ kid_count l + kid_count r
count_join no_kids r = omega arith
count_join (kid m text inside rest) r = omega (arith, count_join rest r)

pub height_join : (l r : Kids) → height_below (join l r) ≡ max (height_below l) (height_below r)
height_join no_kids r = omega arith
height_join (kid m text inside rest) r = omega (arith, height_join rest r)

pub names_join : (l r : Kids) → names_of (join l r) ≡ names_of l ++ names_of r
names_join no_kids r = refl
names_join (kid m text inside rest) r = ap (λ names. m ∷ names) (names_join rest r)

-- the order of both rows is that of each, and of every name of the second after the first's
pub above_left : (m : List ℕ) (l r : Kids) → IsAbove m (join l r) → IsAbove m l
above_left m no_kids r above = tt
above_left m (kid k text inside rest) r above = (above.0, above_left m rest r above.1)

pub above_right : (m : List ℕ) (l r : Kids) → IsAbove m (join l r) → IsAbove m r
above_right m no_kids r above = above
above_right m (kid k text inside rest) r above = above_right m rest r above.1

pub rising_left : (l r : Kids) → IsRising (join l r) → IsRising l
rising_left no_kids r rising = tt
rising_left (kid k text inside rest) r rising =
    (above_left k rest r rising.0, rising_left rest r rising.1)

pub rising_right : (l r : Kids) → IsRising (join l r) → IsRising r
rising_right no_kids r rising = rising
rising_right (kid k text inside rest) r rising = rising_right rest r rising.1

-- a name before the second row belongs in the first
pub above_child : (n : List ℕ) (kids : Kids) → IsAbove n kids → child n kids ≡ None
above_child n no_kids above = refl
above_child n (kid m text inside rest) above = rw above.0 refl

pub child_left : (n : List ℕ) (l r : Kids) → IsAbove n r → child n (join l r) ≡ child n l
child_left n no_kids r above = above_child n r above
child_left n (kid m text inside rest) r above =
    elim (name_cmp n m) as (λ o. by_order o None (Some (record { text = text; kids = inside }))
    (child n (join rest r))
    ≡ by_order o None (Some (record { text = text; kids = inside })) (child n rest)) [
      | Less ↦ refl
      | Equal ↦ refl
      | Greater ↦ child_left n rest r above
    ]

above_put : (n : List ℕ) (d : DocTree) (kids : Kids) → IsAbove n kids
    → put_child n d kids ≡ kid n d.text d.kids kids
above_put n d no_kids above = refl
above_put n d (kid m text inside rest) above = rw above.0 refl

pub put_left : (n : List ℕ) (d : DocTree) (l r : Kids) → IsAbove n r
    → put_child n d (join l r) ≡ join (put_child n d l) r
put_left n d no_kids r above = above_put n d r above
put_left n d (kid m text inside rest) r above =
    elim (name_cmp n m) as (λ o. by_order o (kid n d.text d.kids (kid m text inside (join rest r)))
    (kid n d.text d.kids (join rest r)) (kid m text inside (put_child n d (join rest r)))
    ≡ join (by_order o (kid n d.text d.kids (kid m text inside rest))
    (kid n d.text d.kids rest) (kid m text inside (put_child n d rest))) r) [
      | Less ↦ refl
      | Equal ↦ refl
      | Greater ↦ ap (kid m text inside) (put_left n d rest r above)
    ]

above_delete : (n : List ℕ) (kids : Kids) → IsAbove n kids → delete_child n kids ≡ kids
above_delete n no_kids above = refl
above_delete n (kid m text inside rest) above = rw above.0 refl

pub delete_left : (n : List ℕ) (l r : Kids) → IsAbove n r
    → delete_child n (join l r) ≡ join (delete_child n l) r
delete_left n no_kids r above = above_delete n r above
delete_left n (kid m text inside rest) r above =
    elim (name_cmp n m) as (λ o. by_order o (kid m text inside (join rest r)) (join rest r)
    (kid m text inside (delete_child n (join rest r)))
    ≡ join (by_order o (kid m text inside rest) rest (kid m text inside (delete_child n rest)))
    r) [
      | Less ↦ refl
      | Equal ↦ refl
      | Greater ↦ ap (kid m text inside) (delete_left n rest r above)
    ]

-- a name past the first row belongs in the second
pub child_past : (n : List ℕ) (l r : Kids) → IsBelow n l → child n (join l r) ≡ child n r
child_past n no_kids r below = refl
child_past n (kid m text inside rest) r below = rw below.0 (child_past n rest r below.1)

pub put_past : (n : List ℕ) (d : DocTree) (l r : Kids) → IsBelow n l
    → put_child n d (join l r) ≡ join l (put_child n d r)
put_past n d no_kids r below = refl
put_past n d (kid m text inside rest) r below =
    rw below.0 (ap (kid m text inside) (put_past n d rest r below.1))

pub delete_past : (n : List ℕ) (l r : Kids) → IsBelow n l
    → delete_child n (join l r) ≡ join l (delete_child n r)
delete_past n no_kids r below = refl
delete_past n (kid m text inside rest) r below =
    rw below.0 (ap (kid m text inside) (delete_past n rest r below.1))
