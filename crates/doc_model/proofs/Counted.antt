-- A part of a tree, and what a deletion leaves of it, have no more nodes than the tree.
use Rattle.std.proofs.Common.{◌≡◌, ℕ, ◌≤◌, List, [], ◌∷◌, Option, Some, None, Result, Ok, Err}
use Rattle.std.proofs.Common.{refl, ap, arith}
use Rattle.std.specs.Option.{ForSome, option_and_then}
use Rattle.std.specs.Result.{ForOk}
use Rattle.doc_tree.specs.declared.edit.EditFault.{EditFault}
use Rattle.doc_tree.specs.Tree.{DocTree, child, node, nodes_below, count}
use Rattle.doc_tree.specs.Edits.{Gives, delete}
use Rattle.doc_tree.proofs.Orderly.{count_deleted}
use Rattle.doc_tree.proofs.Sizes.{child_count}

node_count : (path : List (List ℕ)) (t d : DocTree) → node path t ≡ Some d → count d ≤ count t
node_count [] t d h =
    let is : t ≡ d = cc in
    omega (arith, ap (λ (x : DocTree). nodes_below x.kids) is)
node_count (n ∷ path) t d h =
    elim (child n t.kids) as (λ o. child n t.kids ≡ o → option_and_then (node path) o ≡ Some d
    → count d ≤ count t) [
      | None ↦ λ e h. cc
      | Some c ↦ λ e h. omega (arith, node_count path c d h, child_count n t.kids c e)
    ] refl h

pub node_counted : (found : Option DocTree) (path : List (List ℕ)) (t : DocTree)
    → found ≡ node path t → count t ≤ 1_000_000_000 → ForSome found (λ d. count d ≤ 1_000_000_000)
node_counted found path t is few =
    λ d e. let there : node path t ≡ Some d = cc in omega (arith, few, node_count path t d there)

pub delete_counted : (r : Result DocTree EditFault) (path : List (List ℕ)) (t : DocTree)
    → Gives r (delete path t) → count t ≤ 1_000_000_000 → ForOk r (λ u. count u ≤ 1_000_000_000)
delete_counted (Ok t) path was h few =
    λ u e. let made : delete path was ≡ Ok u =
    cc in omega (arith, few, count_deleted path was u made)
delete_counted (Err f) path was h few = λ u e. cc
