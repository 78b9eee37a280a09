use Rattle.std.proofs.Common.{[]}
use Rattle.heap_table.proofs.Laid.{rows_more}
use Rattle.heap_table.proofs.opening.push_rows.Goals as goal

pub loop-row-preserved : goal.loop-row-preserved
loop-row-preserved c =
    rows_more c.args.first.now c.loop-row.row-index [] c.args.words.now.items
    c.loop-row.words.items c.push_row.new.words.items c.loop-row-test.true c.loop-row.invariant
    c.in_ok-push_row.ensures.words
