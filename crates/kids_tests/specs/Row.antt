-- A row of children in a pool in memory.
-- Source: this project's.
use Rattle.std.specs.Prelude.{ℕ, ◌≤◌, List, Option}
use Rattle.doc_tree.specs.declared.tree.TheConstants.Tree.{MOST_CHILDREN}
use Rattle.doc_tree.specs.Tree.{Kids, kid_count, IsRising}
use Rattle.kids_avl.specs.Entries.{Entries, kids_of, IsBalanced}
use Rattle.kids_avl.specs.Pool.{under, Stand}
use Rattle.kids_tests.specs.Memory.{tree_at, HasEntry}

abbrev pub row_of : List Entries → Option ℕ → Kids
row_of trees root = kids_of (under tree_at trees root)

-- what each call of kids_avl asks of a root
pub record IsKept (trees : List Entries) (root : Option ℕ) : Type 0 where
  pub stands : Stand HasEntry trees root
  pub balanced : IsBalanced (under tree_at trees root)
  pub rising : IsRising (row_of trees root)
  pub few : kid_count (row_of trees root) ≤ MOST_CHILDREN
