-- Each call is on a side of the entry.
use Rattle.doc_tree.specs.Tree.{kid_count}
use Rattle.doc_edits.specs.Tops.{row_of}
use Rattle.doc_edits.proofs.sizes.+levels_under.Given as goal

abbrev pub decreases-levels_under : goal.decreases-levels_under
decreases-levels_under g l = kid_count (row_of (g.R.RecordPool.shown l.records.now) l.top)
