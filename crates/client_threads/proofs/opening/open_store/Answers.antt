use Rattle.std.proofs.Common.{arith}
use Rattle.client_threads.proofs.Openings.{opens}
use Rattle.client_threads.proofs.opening.open_store.Goals as goal

pub open-requires-clause-rule : goal.open-requires-clause-rule
open-requires-clause-rule g c =
    let keep = c.from-keep.ensures in
    let range = c.requires.keep in
    opens c.args.cells _ c.from-keep.result _
    c.opening_rows-rows.ensures.rows
    (omega (arith, c.requires.few)) (omega (arith, keep, range.0)) (omega (arith, keep, range.1))

pub open-requires-clause-own : goal.open-requires-clause-own
open-requires-clause-own g c number below =
    (omega (arith, below, c.requires.few), c.requires.minor.0, c.requires.minor.1)
