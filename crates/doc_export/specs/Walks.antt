-- How far the lines of a node's children are written.
-- Source: this project's own.
use Rattle.std.specs.Prelude.{ℕ, ◌≡◌, ◌≤◌, ◌+◌, ◌++◌, List, length}
use Rattle.doc_tree.specs.Tree.{DocTree, count}
use Rattle.minor_heap.specs.Nursery.{Nursery}
use Rattle.mutator_seat.specs.Bound.{Bound}
use Rattle.version_rule.specs.Pass.{Pass}
use Rattle.version_store.specs.Lasts.{marks}
use Rattle.doc_export.specs.Lines.{lines_of, tree_lines}
use Rattle.doc_export.specs.Looks.{looks, nodes_of}
use Rattle.doc_export.specs.Still.{Stays}

-- From the start of the walk over a tree: as much is held and known as then, and with the lines of
-- the children of these names all lines are written. There was a look for each other node.
pub record Walks (m n : Bound Pass) (old new : Nursery) (t : DocTree) (path before : List ℕ)
    (out text : List ℕ) (names : List (List ℕ)) : Type 0 where
  pub keeps : Stays (length m.seat.me.own.held) m n
  pub held : length n.seat.me.own.held ≡ length m.seat.me.own.held
  pub minor : new ≡ old
  pub lines : text ++ lines_of before t.kids names ≡ out ++ tree_lines path before t
  pub looked : looks (marks m) + count t ≤ looks (marks n) + nodes_of t.kids names
