use Rattle.std.proofs.Common.{length}
use Rattle.doc_tree.proofs.path.+are_pieces.Given as goal

abbrev pub decreases-are_pieces : goal.decreases-are_pieces
decreases-are_pieces l = length l.names.now
