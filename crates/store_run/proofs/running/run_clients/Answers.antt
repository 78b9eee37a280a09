use Rattle.std.proofs.Common.{List, subst}
use Rattle.doc_model.specs.declared.command.Command.{Command}
use Rattle.store_run.specs.Finished.{Comes}
use Rattle.store_run.proofs.running.run_clients.Goals as goal

pub returns : goal.returns
returns g c =
    let f = c.run_opened-finished.result.finished in
    subst (λ (scripts : List (List Command)).
    Comes c.args.options.now scripts f.logs.items f.image f.passes f.totals)
    (c.run_opened-finished.ensures.whole c.if-failed.false) c.run_opened-finished.ensures.comes
