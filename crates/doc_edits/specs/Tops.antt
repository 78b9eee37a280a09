-- What edits go by: the children of a node, the node itself, and that there may be none of both.
-- Source: this project's.
use Rattle.std.specs.Prelude.{ℕ, ◌+◌, ◌*◌, ◌≤◌, Option, Some, None}
use Rattle.doc_tree.specs.declared.tree.TheConstants.Tree.{MOST_CHILDREN}
use Rattle.doc_tree.specs.Tree.{DocTree, Kids, empty, kid_count, count, height, IsRising}
use Rattle.kids_avl.specs.Entries.{kids_of}
use Rattle.doc_records.specs.declared.pool.Part.{Part}
use Rattle.doc_records.specs.Pool.{Shown, Stands, part_term}
use Rattle.doc_records.specs.Trees.{AreEntries, IsTreeNode, entries_of, tree_of}

-- the children under a part
abbrev pub row_of : {At F : Type 0} → Shown At F → Part At → Kids
row_of s p = kids_of (entries_of (part_term s.term p))

-- children that a node may have stand here, as entries
pub record IsRowAt {At F : Type 0} (s : Shown At F) (p : Part At) : Type 0 where
  pub stands : Stands s p
  pub entries : AreEntries (part_term s.term p)
  pub rising : IsRising (row_of s p)
  pub few : kid_count (row_of s p) ≤ MOST_CHILDREN

-- the node of a lawful tree stands here
pub record IsTreeAt {At F : Type 0} (s : Shown At F) (a : At) : Type 0 where
  pub stands : s.stands s.held a
  pub node : IsTreeNode (s.term a)

-- a node, or none, which is as a node of the empty tree
abbrev pub tree_under : {At F : Type 0} → Shown At F → Option At → DocTree
tree_under s None = empty
tree_under s (Some a) = tree_of (s.term a)

abbrev pub IsTop : {At F : Type 0} → Shown At F → Option At → Type 0
IsTop s None = Unit {0}
IsTop s (Some a) = IsTreeAt s a

-- how large a tree is after an edit that had so many names to go
pub record IsWithin (names : ℕ) (t : DocTree) : Type 0 where
  pub few : count t ≤ 1_000_000_000 * (names + 1)
  pub low : height t ≤ 8 + names
