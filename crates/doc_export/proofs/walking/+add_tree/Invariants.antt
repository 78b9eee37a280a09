use Rattle.std.proofs.Common.{drop}
use Rattle.client_trees.specs.declared.at.NodeAt.TheVariants as at
use Rattle.client_trees.specs.Nodes.{tree_at}
use Rattle.doc_tree.specs.Tree.{height}
use Rattle.doc_export.specs.Walks.{Walks}
use Rattle.doc_export.proofs.walking.+add_tree.Given as goal

-- Each call is for a tree of smaller height.
abbrev pub decreases-add_tree : goal.decreases-add_tree
decreases-add_tree l = height (tree_at l.m.now l.minor.now (at.Shared l.place))

-- the names that are left
abbrev pub invariant-loop-name : goal.invariant-loop-name
invariant-loop-name l =
    Walks l.fn.m l.m l.fn.minor l.minor (tree_at l.fn.m l.fn.minor (at.Shared l.place)) l.fn.path
    l.before l.fn.out.items l.out.items (drop l.name-index l.name-items)
