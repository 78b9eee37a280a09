-- Lawful trees: what every tree of a document is, and what an edit that is not refused keeps.
-- At every node the names rise and there are at most `MOST_CHILDREN` children; the whole tree is at
-- most 8 high and has at most 1,000,000,000 nodes. All four then hold of the tree of every node in
-- it.
-- Source: this project's.
use Rattle.std.specs.Prelude.{◌≡◌, ◌≢◌, ℕ, ◌≤◌, List, Some, Ok, Err, length}
use Rattle.doc_tree.specs.declared.edit.EditFault.TheVariants as fault
use Rattle.doc_tree.specs.declared.tree.TheConstants.Tree.{MOST_CHILDREN}
use Rattle.doc_tree.specs.Tree.{DocTree, Kids, no_kids, kid, kid_count, count, height, node}
use Rattle.doc_tree.specs.Tree.{IsRising}
use Rattle.doc_tree.specs.Edits.{set_text, attach, delete}

-- the children of one node: their names rise, and they are at most `MOST_CHILDREN`
pub record IsOrderly (kids : Kids) : Type 0 where
  pub rising : IsRising kids
  pub few : kid_count kids ≤ MOST_CHILDREN

-- the children of every node below these
abbrev pub AreOrderly : Kids → Type 0
AreOrderly no_kids = Unit {0}
AreOrderly (kid name text inside rest) = IsOrderly inside × (AreOrderly inside × AreOrderly rest)

-- every node of the tree
pub record IsOrdered (t : DocTree) : Type 0 where
  pub here : IsOrderly t.kids
  pub below : AreOrderly t.kids

pub record IsLawful (t : DocTree) : Type 0 where
  pub nodes : IsOrdered t
  pub low : height t ≤ 8
  pub few : count t ≤ 1_000_000_000

-- The law of each way to a tree: what it is made from is lawful, so it is lawful itself.
abbrev pub NodeIsLawful : Type 0
NodeIsLawful = (path : List (List ℕ)) (t d : DocTree) → IsLawful t → node path t ≡ Some d
    → IsLawful d

abbrev pub SetTextIsLawful : Type 0
SetTextIsLawful =
    (path : List (List ℕ)) (text : List ℕ) (t u : DocTree) → IsLawful t
    → set_text path text t ≡ Ok u → IsLawful u

abbrev pub AttachIsLawful : Type 0
AttachIsLawful =
    (path : List (List ℕ)) (sub t u : DocTree) → IsLawful sub → IsLawful t
    → attach path sub t ≡ Ok u → IsLawful u

abbrev pub DeleteIsLawful : Type 0
DeleteIsLawful =
    (path : List (List ℕ)) (t u : DocTree) → IsLawful t → delete path t ≡ Ok u → IsLawful u

-- a text that is put at the end of a path of 8 names makes no tree that is too high
abbrev pub SetTextIsShallow : Type 0
SetTextIsShallow =
    (path : List (List ℕ)) (text : List ℕ) (t : DocTree) → length path ≤ 8 → height t ≤ 8
    → set_text path text t ≢ Err fault.Deep
