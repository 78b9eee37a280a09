-- Each call is for one cell less.
use Rattle.doc_records.specs.Pool.{part_term}
use Rattle.doc_records.specs.Shapes.{cells_of}
use Rattle.doc_records.proofs.orders.+order_text.Given as goal

abbrev pub decreases-order_text : goal.decreases-order_text
decreases-order_text g l = cells_of (part_term (g.R.RecordPool.shown l.records.now).term l.top)
