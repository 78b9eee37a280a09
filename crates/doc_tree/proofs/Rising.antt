-- The order of names, and that the names of children go on rising.
use Rattle.std.proofs.Common.{◌≡◌, ℕ, ◌+◌, ◌<◌, ◌≤◌, List, Some, None, refl, ap, ◌∙◌, arith}
use Rattle.std.specs.declared.cmp.Ordering.TheVariants.{Less, Equal, Greater}
use Rattle.std.specs.Ordering.{ordering_reverse}
use Rattle.std.proofs.lemmas.Cmp.{nat_list_cmp_total}
use Rattle.doc_tree.specs.declared.tree.TheConstants.Tree.{MOST_CHILDREN}
use Rattle.doc_tree.specs.Edits.{delete_child}
use Rattle.doc_tree.specs.Tree.{DocTree, Kids, no_kids, kid, kid_count, name_cmp, by_order, child}
use Rattle.doc_tree.specs.Tree.{put_child, IsAbove, IsRising}

pub turned : (m n : List ℕ) → name_cmp m n ≡ ordering_reverse (name_cmp n m)
turned m n = nat_list_cmp_total.antisymm m n

pub less_turned : (m n : List ℕ) → name_cmp m n ≡ Less → name_cmp n m ≡ Greater
less_turned m n h = turned n m ∙ ap ordering_reverse h

pub greater_turned : (m n : List ℕ) → name_cmp m n ≡ Greater → name_cmp n m ≡ Less
greater_turned m n h = turned n m ∙ ap ordering_reverse h

pub equal_turned : (m n : List ℕ) → name_cmp m n ≡ Equal → name_cmp n m ≡ Equal
equal_turned m n h = turned n m ∙ ap ordering_reverse h

-- what comes before a name comes before its equals
pub less_equal : (l m n : List ℕ) → name_cmp l m ≡ Less → name_cmp n m ≡ Equal → name_cmp l n ≡ Less
less_equal l m n h e =
    greater_turned n l (nat_list_cmp_total.congr n m l e ∙ less_turned l m h)

pub above_later : (m n : List ℕ) (kids : Kids) → name_cmp m n ≡ Less → IsAbove n kids
    → IsAbove m kids
above_later m n no_kids h above = tt
above_later m n (kid k text inside rest) h above =
    (nat_list_cmp_total.trans m n k h above.0, above_later m n rest h above.1)

pub above_equal : (m n : List ℕ) (kids : Kids) → name_cmp n m ≡ Equal → IsAbove m kids
    → IsAbove n kids
above_equal m n no_kids e above = tt
above_equal m n (kid k text inside rest) e above =
    (nat_list_cmp_total.congr n m k e ∙ above.0, above_equal m n rest e above.1)

pub above_put : (m n : List ℕ) (d : DocTree) (kids : Kids) → name_cmp m n ≡ Less → IsAbove m kids
    → IsAbove m (put_child n d kids)
above_put m n d no_kids h above = (h, tt)
above_put m n d (kid k text inside rest) h above =
    elim (name_cmp n k) as (λ o. IsAbove m
    (by_order o (kid n d.text d.kids (kid k text inside rest)) (kid n d.text d.kids rest)
    (kid k text inside (put_child n d rest)))) [
      | Less ↦ (h, above)
      | Equal ↦ (h, above.1)
      | Greater ↦ (above.0, above_put m n d rest h above.1)
    ]

pub rising_put : (n : List ℕ) (d : DocTree) (kids : Kids) → IsRising kids
    → IsRising (put_child n d kids)
rising_put n d no_kids rising = (tt, tt)
rising_put n d (kid k text inside rest) rising =
    elim (name_cmp n k) as (λ o. name_cmp n k ≡ o
    → IsRising (by_order o (kid n d.text d.kids (kid k text inside rest))
    (kid n d.text d.kids rest) (kid k text inside (put_child n d rest)))) [
      | Less ↦ λ h. ((h, above_later n k rest h rising.0), rising)
      | Equal ↦ λ h. (above_equal k n rest h rising.0, rising.1)
      | Greater ↦ λ h. (
        above_put k n d rest (greater_turned n k h) rising.0,
        rising_put n d rest rising.1,
      )
    ] refl

-- a child that is put adds at most one, and none where one of its name stood
pub count_put : (n : List ℕ) (d : DocTree) (kids : Kids)
    → kid_count (put_child n d kids) ≤ kid_count kids + 1
count_put n d no_kids = omega arith
count_put n d (kid k text inside rest) =
    elim (name_cmp n k) as (λ o. kid_count
    (by_order o (kid n d.text d.kids (kid k text inside rest)) (kid n d.text d.kids rest)
    (kid k text inside (put_child n d rest))) ≤ (kid_count rest + 1) + 1) [
      | Less ↦ omega arith
      | Equal ↦ omega arith
      | Greater ↦ omega (arith, count_put n d rest)
    ]

pub count_put_over : (n : List ℕ) (d was : DocTree) (kids : Kids) → child n kids ≡ Some was
    → kid_count (put_child n d kids) ≡ kid_count kids
count_put_over n d was no_kids h = cc
count_put_over n d was (kid k text inside rest) h =
    elim (name_cmp n k) as (λ o. by_order o None (Some (record { text = text; kids = inside }))
    (child n rest) ≡ Some was
    → kid_count (by_order o (kid n d.text d.kids (kid k text inside rest))
    (kid n d.text d.kids rest) (kid k text inside (put_child n d rest))) ≡ kid_count rest + 1) [
      | Less ↦ λ h. cc
      | Equal ↦ λ h. refl
      | Greater ↦ λ h. ap (λ c. c + 1) (count_put_over n d was rest h)
    ] h

pub room_put : (n : List ℕ) (d : DocTree) (kids : Kids)
    → (child n kids ≡ None → kid_count kids < MOST_CHILDREN) → kid_count kids ≤ MOST_CHILDREN
    → kid_count (put_child n d kids) ≤ MOST_CHILDREN
room_put n d kids room few =
    elim (child n kids) as (λ o. child n kids ≡ o → (o ≡ None → kid_count kids < MOST_CHILDREN)
    → kid_count (put_child n d kids) ≤ MOST_CHILDREN) [
      | None ↦ λ e free. omega (arith, free refl, count_put n d kids)
      | Some was ↦ λ e free. omega (arith, few, count_put_over n d was kids e)
    ] refl room

-- a deletion leaves an order and a number that are no worse
pub above_delete : (m n : List ℕ) (kids : Kids) → IsAbove m kids → IsAbove m (delete_child n kids)
above_delete m n no_kids above = tt
above_delete m n (kid k text inside rest) above =
    elim (name_cmp n k) as (λ o. IsAbove m
    (by_order o (kid k text inside rest) rest (kid k text inside (delete_child n rest)))) [
      | Less ↦ above
      | Equal ↦ above.1
      | Greater ↦ (above.0, above_delete m n rest above.1)
    ]

pub rising_delete : (n : List ℕ) (kids : Kids) → IsRising kids → IsRising (delete_child n kids)
rising_delete n no_kids rising = tt
rising_delete n (kid k text inside rest) rising =
    elim (name_cmp n k) as (λ o. IsRising
    (by_order o (kid k text inside rest) rest (kid k text inside (delete_child n rest)))) [
      | Less ↦ rising
      | Equal ↦ rising.1
      | Greater ↦ (above_delete k n rest rising.0, rising_delete n rest rising.1)
    ]

pub count_delete : (n : List ℕ) (kids : Kids) → kid_count (delete_child n kids) ≤ kid_count kids
count_delete n no_kids = omega arith
count_delete n (kid k text inside rest) =
    elim (name_cmp n k) as (λ o. kid_count
    (by_order o (kid k text inside rest) rest (kid k text inside (delete_child n rest))) ≤
    kid_count rest + 1) [
      | Less ↦ omega arith
      | Equal ↦ omega arith
      | Greater ↦ omega (arith, count_delete n rest)
    ]
