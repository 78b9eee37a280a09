-- How many nodes and how many levels a change of one child makes.
--
-- child_*   a child is smaller than the tree, and lower.
-- put_*     a child that is put makes the tree no higher than its own height and one asks for.
-- delete_*  what is left without a child is no greater and no higher.
-- nodes_*   how many nodes there are then, exactly.
use Rattle.std.proofs.Common.{◌≡◌, ℕ, ◌+◌, ◌≤◌, List, None, Some, max, ap, arith}
use Rattle.std.specs.declared.cmp.Ordering.TheVariants.{Less, Equal, Greater}
use Rattle.doc_tree.specs.Edits.{delete_child}
use Rattle.doc_tree.specs.Tree.{DocTree, Kids, no_kids, kid, child, put_child, nodes_below}
use Rattle.doc_tree.specs.Tree.{height_below, count, height, name_cmp, by_order, nodes_in}

pub child_count : (n : List ℕ) (kids : Kids) (d : DocTree) → child n kids ≡ Some d
    → count d ≤ nodes_below kids
child_count n no_kids d h = cc
child_count n (kid m text inside rest) d h =
    elim (name_cmp n m) as (λ o. by_order o None (Some (record { text = text; kids = inside }))
    (child n rest) ≡ Some d → count d ≤ (nodes_below inside + 1) + nodes_below rest) [
      | Less ↦ λ h. cc
      | Equal ↦ λ h.
          let is : record { text = text; kids = inside } ≡ d = cc in
          omega (arith, ap (λ (x : DocTree). nodes_below x.kids) is)
      | Greater ↦ λ h. omega (arith, child_count n rest d h)
    ] h

pub child_height : (n : List ℕ) (kids : Kids) (d : DocTree) → child n kids ≡ Some d
    → height d + 1 ≤ height_below kids
child_height n no_kids d h = cc
child_height n (kid m text inside rest) d h =
    elim (name_cmp n m) as (λ o. by_order o None (Some (record { text = text; kids = inside }))
    (child n rest) ≡ Some d → height d + 1 ≤ max (height_below inside + 1) (height_below rest)) [
      | Less ↦ λ h. cc
      | Equal ↦ λ h.
          let is : record { text = text; kids = inside } ≡ d = cc in
          omega (arith, ap (λ (x : DocTree). height_below x.kids) is)
      | Greater ↦ λ h. omega (arith, child_height n rest d h)
    ] h

pub put_height : (n : List ℕ) (d : DocTree) (kids : Kids)
    → height_below (put_child n d kids) ≤ max (height_below kids) (height d + 1)
put_height n d no_kids = omega arith
put_height n d (kid m text inside rest) =
    elim (name_cmp n m) as (λ o. height_below
    (by_order o (kid n d.text d.kids (kid m text inside rest)) (kid n d.text d.kids rest)
    (kid m text inside (put_child n d rest))) ≤ max
    (max (height_below inside + 1) (height_below rest)) (height_below d.kids + 1)) [
      | Less ↦ omega arith
      | Equal ↦ omega arith
      | Greater ↦ omega (arith, put_height n d rest)
    ]

pub put_fewer : (n : List ℕ) (d was : DocTree) (kids : Kids) → child n kids ≡ Some was
    → count d ≤ count was → nodes_below (put_child n d kids) ≤ nodes_below kids
put_fewer n d was no_kids h le = cc
put_fewer n d was (kid m text inside rest) h le =
    elim (name_cmp n m) as (λ o. by_order o None (Some (record { text = text; kids = inside }))
    (child n rest) ≡ Some was
    → nodes_below (by_order o (kid n d.text d.kids (kid m text inside rest))
    (kid n d.text d.kids rest) (kid m text inside (put_child n d rest))) ≤
    (nodes_below inside + 1) + nodes_below rest) [
      | Less ↦ λ h. cc
      | Equal ↦ λ h.
          let is : record { text = text; kids = inside } ≡ was = cc in
          omega (arith, le, ap (λ (x : DocTree). nodes_below x.kids) is)
      | Greater ↦ λ h. omega (arith, put_fewer n d was rest h le)
    ] h

pub delete_fewer : (n : List ℕ) (kids : Kids) → nodes_below (delete_child n kids) ≤ nodes_below kids
delete_fewer n no_kids = omega arith
delete_fewer n (kid m text inside rest) =
    elim (name_cmp n m) as (λ o. nodes_below
    (by_order o (kid m text inside rest) rest (kid m text inside (delete_child n rest))) ≤
    (nodes_below inside + 1) + nodes_below rest) [
      | Less ↦ omega arith
      | Equal ↦ omega arith
      | Greater ↦ omega (arith, delete_fewer n rest)
    ]

pub delete_lower : (n : List ℕ) (kids : Kids)
    → height_below (delete_child n kids) ≤ height_below kids
delete_lower n no_kids = omega arith
delete_lower n (kid m text inside rest) =
    elim (name_cmp n m) as (λ o. height_below
    (by_order o (kid m text inside rest) rest (kid m text inside (delete_child n rest))) ≤ max
    (height_below inside + 1) (height_below rest)) [
      | Less ↦ omega arith
      | Equal ↦ omega arith
      | Greater ↦ omega (arith, delete_lower n rest)
    ]

-- Exactly: the nodes of a child that is put come in place of those of the child that stood there.
pub nodes_put : (n : List ℕ) (d : DocTree) (kids : Kids)
    → nodes_below (put_child n d kids) + nodes_in (child n kids) ≡ nodes_below kids + count d
nodes_put n d no_kids = omega arith
nodes_put n d (kid m text inside rest) =
    elim (name_cmp n m) as (λ o. nodes_below (by_order o
    (kid n d.text d.kids (kid m text inside rest)) (kid n d.text d.kids rest)
    (kid m text inside (put_child n d rest)))
    + nodes_in (by_order o None (Some (record { text = text; kids = inside })) (child n rest))
    ≡ ((nodes_below inside + 1) + nodes_below rest) + count d) [
      | Less ↦ omega arith
      | Equal ↦ omega arith
      | Greater ↦ omega (arith, nodes_put n d rest)
    ]

pub nodes_delete : (n : List ℕ) (kids : Kids)
    → nodes_below (delete_child n kids) + nodes_in (child n kids) ≡ nodes_below kids
nodes_delete n no_kids = omega arith
nodes_delete n (kid m text inside rest) =
    elim (name_cmp n m) as (λ o. nodes_below
    (by_order o (kid m text inside rest) rest (kid m text inside (delete_child n rest)))
    + nodes_in (by_order o None (Some (record { text = text; kids = inside })) (child n rest))
    ≡ (nodes_below inside + 1) + nodes_below rest) [
      | Less ↦ omega arith
      | Equal ↦ omega arith
      | Greater ↦ omega (arith, nodes_delete n rest)
    ]
