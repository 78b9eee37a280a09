-- Each call is for one name less.
use Rattle.std.proofs.Common.{length}
use Rattle.doc_edits.proofs.removals.+delete_along.Given as goal

abbrev pub decreases-delete_along : goal.decreases-delete_along
decreases-delete_along g l = length l.names.now
