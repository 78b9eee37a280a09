-- Each call is for one name less.
use Rattle.std.proofs.Common.{length}
use Rattle.doc_edits.proofs.edits.+edit_along.Given as goal

abbrev pub decreases-edit_along : goal.decreases-edit_along
decreases-edit_along g l = length l.names.now
