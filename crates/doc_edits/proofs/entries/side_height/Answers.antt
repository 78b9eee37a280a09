use Rattle.std.proofs.Common.{sym, ap}
use Rattle.kids_avl.specs.Entries.{height_of}
use Rattle.doc_records.specs.Pool.{part_term}
use Rattle.doc_records.specs.Trees.{entries_of}
use Rattle.doc_edits.proofs.entries.side_height.Goals as goal

pub returns-in-Null-clause-height : goal.returns-in-Null-clause-height
returns-in-Null-clause-height g c =
    let s = g.R.RecordPool.shown c.args.records.now in
    sym (ap (λ side. height_of (entries_of (part_term s.term side))) c.in-Null.is)
