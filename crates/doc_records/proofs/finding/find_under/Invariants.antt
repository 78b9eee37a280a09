-- Each turn goes on at a side of the entry.
use Rattle.kids_avl.specs.Entries.{height_of}
use Rattle.doc_records.specs.Pool.{part_term}
use Rattle.doc_records.specs.Trees.{entries_of}
use Rattle.doc_records.proofs.Descents.{Descends}
use Rattle.doc_records.proofs.finding.find_under.Given as goal

abbrev pub invariant-loop-side : goal.invariant-loop-side
invariant-loop-side g l =
    Descends g.R.RecordPool.shared l.name (g.R.RecordPool.shown l.initial.records) l.initial.side
    (g.R.RecordPool.shown l.records) l.side

abbrev pub decreases-loop-side : goal.decreases-loop-side
decreases-loop-side g l =
    height_of (entries_of (part_term (g.R.RecordPool.shown l.records).term l.side))
