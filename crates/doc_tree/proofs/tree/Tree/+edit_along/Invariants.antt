use Rattle.std.proofs.Common.{length}
use Rattle.doc_tree.proofs.tree.Tree.+edit_along.Given as goal

abbrev pub decreases-edit_along : goal.decreases-edit_along
decreases-edit_along l = length l.names.now
