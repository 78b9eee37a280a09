use Rattle.std.proofs.Common.{length}
use Rattle.doc_tree.proofs.tree.Tree.+delete_along.Given as goal

abbrev pub decreases-delete_along : goal.decreases-delete_along
decreases-delete_along l = length l.names.now
