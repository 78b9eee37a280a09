use Rattle.mail_threads.specs.Workers.{IsDone}
use Rattle.mutator_threads.proofs.EachDone.{all_done}
use Rattle.mail_threads.proofs.joining.run_senders.Goals as goal

pub returns-clause-done : goal.returns-clause-done
returns-clause-done g c =
    all_done _ (λ number sender. IsDone c.args.heap.now c.args.scripts.now number sender)
    (λ place old new has. has) 0 c.args.senders.items c.run_each.result.items
    c.run_each.ensures.done
