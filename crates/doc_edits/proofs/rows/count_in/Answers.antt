use Rattle.std.proofs.Common.{arith}
use Rattle.doc_edits.proofs.Pools.{row_balanced, row_stands}
use Rattle.doc_edits.proofs.rows.count_in.Goals as goal

pub len-requires-clause-stands : goal.len-requires-clause-stands
len-requires-clause-stands g c =
    row_stands g.R.RecordPool.shown c.args.pool.now c.args.top _ c.top_of.ensures c.requires.row
    (omega (arith, c.requires.places))

pub len-requires-clause-balanced : goal.len-requires-clause-balanced
len-requires-clause-balanced g c =
    row_balanced g.R.RecordPool.shown c.args.pool.now c.args.top _ c.top_of.ensures c.requires.row
