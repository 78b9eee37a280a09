-- The nodes of trees that a client works on: what is known of them.
-- Source: this project's.
use Rattle.std.specs.Prelude.{length}
use Rattle.client_trees.specs.declared.at.NodeAt.{NodeAt}
use Rattle.client_trees.specs.Records.{stands_on, term_at}
use Rattle.doc_records.specs.Trees.{IsTreeNode, tree_of}
use Rattle.doc_tree.specs.Tree.{DocTree}
use Rattle.minor_heap.specs.Nursery.{Nursery}
use Rattle.mutator_seat.specs.Bound.{Bound}

module _ {P : Type 0} where
  -- the node of a lawful tree stands here: a place that is known as such a record, or a private one
  pub record IsTreeAt (m : Bound P) (minor : Nursery) (at : NodeAt) : Type 0 where
    pub stands : stands_on m.seat.me.known minor.records (length m.seat.me.own.held) at
    pub node : IsTreeNode (term_at m.seat.me.known minor.records at)

  -- the tree of that node
  abbrev pub tree_at : Bound P → Nursery → NodeAt → DocTree
  tree_at m minor at = tree_of (term_at m.seat.me.known minor.records at)
