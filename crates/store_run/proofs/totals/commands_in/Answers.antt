use Rattle.std.proofs.Common.{List, ap, arith, length}
use Rattle.doc_model.specs.declared.command.Entry.{Entry}
use Rattle.store_run.proofs.Counts.{entries_fit}
use Rattle.store_run.proofs.totals.commands_in.Goals as goal

pub overflow_add-count : goal.overflow_add-count
overflow_add-count c =
    let fit = entries_fit c.args.logs.now c.loop-log.log-index c.log-item.result c.requires.few
    c.requires.short c.loop-log-test.true c.log-item.is c.loop-log.count c.loop-log.invariant in
    let same = ap (λ (es : List Entry). length es) c.entries.ensures in
    omega (arith, fit, same)
