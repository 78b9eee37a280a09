use Rattle.std.proofs.Common.{List, ap, arith, length}
use Rattle.doc_model.specs.Agreement.{ok_places}
use Rattle.doc_model.specs.declared.command.Entry.{Entry}
use Rattle.store_run.proofs.Counts.{made_fit}
use Rattle.store_run.proofs.totals.versions_in.Goals as goal

pub overflow_add-count : goal.overflow_add-count
overflow_add-count c =
    let fit = made_fit c.args.logs.now c.loop-log.log-index c.log-item.result c.requires.few
    c.requires.short c.loop-log-test.true c.log-item.is c.loop-log.count c.loop-log.invariant in
    let same = ap (λ (es : List Entry). length (ok_places es)) c.entries.ensures in
    let its = c.new_versions-count.ensures.count in
    omega (arith, fit, same, its)
