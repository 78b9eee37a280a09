-- Each call is for one cell less.
use Rattle.doc_records.specs.Pool.{part_term}
use Rattle.doc_records.specs.Shapes.{cells_of}
use Rattle.doc_records.proofs.texts.+push_text.Given as goal

abbrev pub decreases-push_text : goal.decreases-push_text
decreases-push_text g l = cells_of (part_term (g.R.RecordPool.shown l.records.now).term l.top)
