-- The child in which an edit goes on, and how large a tree is after a deletion.
use Rattle.std.proofs.Common.{◌≡◌, ℕ, ◌≤◌, refl, sym, ap, ◌∙◌, arith}
use Rattle.std.proofs.Common.{List, [], ◌∷◌, Some, Result, Ok}
use Rattle.std.specs.Result.{ForOk}
use Rattle.doc_tree.specs.declared.edit.EditFault.{EditFault}
use Rattle.doc_tree.specs.Edits.{answered, attach, delete, set_text}
use Rattle.doc_tree.specs.Lawful.{IsLawful}
use Rattle.doc_tree.specs.Tree.{DocTree, child, count, height}
use Rattle.doc_tree.proofs.Orderly.{attach_lawful, count_deleted, delete_lawful}
use Rattle.doc_tree.proofs.Orderly.{height_deleted, node_lawful, set_text_lawful}
use Rattle.doc_records.specs.Pool.{Shown}
use Rattle.doc_records.specs.Trees.{IsNodeAt, tree_of}
use Rattle.doc_edits.specs.Tops.{IsTreeAt}

-- how large a tree is after a deletion
pub deleted_few : (path : List (List ℕ)) (d u : DocTree) → Ok u ≡ delete path d → IsLawful d
    → count u ≤ 10_000_000_000
deleted_few path d u is lawful =
    let few = lawful.few in
    omega (arith, few, count_deleted path d u (sym is))

pub deleted_low : (path : List (List ℕ)) (d u : DocTree) → Ok u ≡ delete path d → IsLawful d
    → height u ≤ 100
deleted_low path d u is lawful =
    let low = lawful.low in
    omega (arith, low, height_deleted path d u (sym is))

pub ruleset deleted = (deleted_few, deleted_low)

-- the child in which a deletion goes on
pub tree_child : {At F : Type 0} (s : Shown At F) (t : DocTree) (n : List ℕ) (a : At) → IsLawful t
    → IsNodeAt s a → Some (tree_of (s.term a)) ≡ child n t.kids → IsTreeAt s a
tree_child s t n a lawful is there = record {
  stands = is.stands;
  node = record {
    node = is.node;
    lawful = node_lawful (n ∷ []) t (tree_of (s.term a)) lawful (rw (sym there) refl);
  };
}

-- an edit's answer is the node of a lawful tree
pub tree_lawful : {At F : Type 0} (s : Shown At F) (r : Result At EditFault)
    (wanted : Result DocTree EditFault) → answered (λ a. tree_of (s.term a)) r ≡ wanted
    → ((u : DocTree) → wanted ≡ Ok u → IsLawful u) → ForOk r (IsNodeAt s) → ForOk r (IsTreeAt s)
tree_lawful s r wanted is all nodes = λ a e.
    let node = nodes a e in
    record {
      stands = node.stands;
      node = record {
        node = node.node;
        lawful = all (tree_of (s.term a)) (sym is ∙ ap (answered (λ a. tree_of (s.term a))) e);
      };
    }

pub text_lawful : {At F : Type 0} (s : Shown At F) (r : Result At EditFault) (path : List (List ℕ))
    (text : List ℕ) (t : DocTree) → answered (λ a. tree_of (s.term a)) r ≡ set_text path text t
    → IsLawful t → ForOk r (IsNodeAt s) → ForOk r (IsTreeAt s)
text_lawful s r path text t is lawful nodes =
    tree_lawful s r (set_text path text t) is (λ u e. set_text_lawful path text t u lawful e) nodes

pub attached_lawful : {At F : Type 0} (s : Shown At F) (r : Result At EditFault)
    (path : List (List ℕ)) (sub t : DocTree)
    → answered (λ a. tree_of (s.term a)) r ≡ attach path sub t → IsLawful sub → IsLawful t
    → ForOk r (IsNodeAt s) → ForOk r (IsTreeAt s)
attached_lawful s r path sub t is inside lawful nodes =
    tree_lawful s r (attach path sub t) is (λ u e. attach_lawful path sub t u inside lawful e) nodes

pub deleted_lawful : {At F : Type 0} (s : Shown At F) (r : Result At EditFault)
    (path : List (List ℕ)) (t : DocTree)
    → answered (λ a. tree_of (s.term a)) r ≡ delete path t → IsLawful t
    → ForOk r (IsNodeAt s) → ForOk r (IsTreeAt s)
deleted_lawful s r path t is lawful nodes =
    tree_lawful s r (delete path t) is (λ u e. delete_lawful path t u lawful e) nodes
