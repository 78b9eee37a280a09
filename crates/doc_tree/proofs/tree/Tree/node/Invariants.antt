use Rattle.std.proofs.Common.{◌≡◌, drop}
use Rattle.doc_tree.specs.Tree.{node}
use Rattle.doc_tree.proofs.tree.Tree.node.Given as goal

abbrev pub invariant-loop-name : goal.invariant-loop-name
invariant-loop-name l = node (drop l.name-index l.name-items) l.tree ≡ node l.path l.self
