-- The sizes of a row of which one child comes, goes or is changed.
--
-- nodes_*  the nodes of the child that goes make place for those of the one that comes.
-- least_*  the row is as high as the child that comes makes it.
-- rest_*   whatever else was as high as the row still is there.
use Rattle.std.proofs.Common.{◌≡◌, ℕ, ◌+◌, ◌<◌, ◌≤◌, List, Option, None, Some, max, ap, arith}
use Rattle.std.proofs.Common.{◌∙◌, ◌^◌}
use Rattle.std.specs.declared.cmp.Ordering.TheVariants.{Less, Equal, Greater}
use Rattle.doc_tree.specs.Edits.{delete_child}
use Rattle.doc_tree.specs.Tree.{DocTree, Kids, child, kid, no_kids, nodes_in, put_child}
use Rattle.doc_tree.specs.Tree.{height_below, count, height, name_cmp, by_order}
use Rattle.doc_tree.proofs.Sizes.{nodes_delete, nodes_put, delete_lower, put_height}
use Rattle.doc_edits.specs.declared.sizes.Change.{Change}
use Rattle.doc_edits.specs.Sizes.{Changes, IsChange, levels_in}

least_put : (n : List ℕ) (d : DocTree) (kids : Kids)
    → height d + 1 ≤ height_below (put_child n d kids)
least_put n d no_kids = omega arith
least_put n d (kid m text inside rest) =
    elim (name_cmp n m) as (λ o. height_below d.kids + 1 ≤ height_below
    (by_order o (kid n d.text d.kids (kid m text inside rest)) (kid n d.text d.kids rest)
    (kid m text inside (put_child n d rest)))) [
      | Less ↦ omega arith
      | Equal ↦ omega arith
      | Greater ↦ omega (arith, least_put n d rest)
    ]

rest_put : (n : List ℕ) (d : DocTree) (kids : Kids)
    → height_below kids ≤ max (height_below (put_child n d kids)) (levels_in (child n kids))
rest_put n d no_kids = omega arith
rest_put n d (kid m text inside rest) =
    elim (name_cmp n m) as (λ o. max (height_below inside + 1) (height_below rest) ≤ max
    (height_below (by_order o (kid n d.text d.kids (kid m text inside rest))
    (kid n d.text d.kids rest) (kid m text inside (put_child n d rest))))
    (levels_in (by_order o None (Some (record { text = text; kids = inside })) (child n rest)))) [
      | Less ↦ omega arith
      | Equal ↦ omega arith
      | Greater ↦ omega (arith, rest_put n d rest)
    ]

rest_delete : (n : List ℕ) (kids : Kids)
    → height_below kids ≤ max (height_below (delete_child n kids)) (levels_in (child n kids))
rest_delete n no_kids = omega arith
rest_delete n (kid m text inside rest) =
    elim (name_cmp n m) as (λ o. max (height_below inside + 1) (height_below rest) ≤ max
    (height_below (by_order o (kid m text inside rest) rest
    (kid m text inside (delete_child n rest))))
    (levels_in (by_order o None (Some (record { text = text; kids = inside })) (child n rest)))) [
      | Less ↦ omega arith
      | Equal ↦ omega arith
      | Greater ↦ omega (arith, rest_delete n rest)
    ]

-- a child that is put, and one that is deleted
pub put_changes : (c : Change) (n : List ℕ) (d t : DocTree) (went came : Option DocTree)
    (kids row : Kids) → IsChange c t went came → went ≡ child n t.kids → came ≡ Some d
    → kids ≡ t.kids → row ≡ put_child n d kids → count t + count d < 2 ^ 61 → Changes c row
put_changes c n d t went came kids row is there new same made few =
    rw (made, same) (record {
      nodes =
          omega (
            arith,
            nodes_put n d t.kids,
            is.nodes,
            is.nodes_gone ∙ ap nodes_in there,
            is.nodes_come ∙ ap nodes_in new,
          );
      few = omega (arith, few, is.nodes, is.nodes_come ∙ ap nodes_in new);
      least = omega (arith, least_put n d t.kids, is.levels_come ∙ ap levels_in new);
      most = omega (arith, put_height n d t.kids, is.levels, is.levels_come ∙ ap levels_in new);
      rest = omega (arith, rest_put n d t.kids, is.levels, is.levels_gone ∙ ap levels_in there);
    })

pub delete_changes : (c : Change) (n : List ℕ) (t : DocTree) (went came : Option DocTree)
    (kids row : Kids) → IsChange c t went came → went ≡ child n t.kids → came ≡ None
    → kids ≡ t.kids → row ≡ delete_child n kids → count t < 2 ^ 61 → Changes c row
delete_changes c n t went came kids row is there none same made few =
    rw (made, same) (record {
      nodes =
          omega (
            arith,
            nodes_delete n t.kids,
            is.nodes,
            is.nodes_gone ∙ ap nodes_in there,
            is.nodes_come ∙ ap nodes_in none,
          );
      few = omega (arith, few, is.nodes, is.nodes_come ∙ ap nodes_in none);
      least = omega (arith, is.levels_come ∙ ap levels_in none);
      most = omega (arith, delete_lower n t.kids, is.levels);
      rest = omega (arith, rest_delete n t.kids, is.levels, is.levels_gone ∙ ap levels_in there);
    })
