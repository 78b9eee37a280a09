use Rattle.std.proofs.Common.{◌≡◌, ◌≤◌, ℕ, List, arith, length}
use Rattle.beside_collector.specs.Scripts.{script_of}
use Rattle.beside_collector.proofs.Scripts.{script_is}
use Rattle.client_threads.specs.Clients.{IsDone, IsReady}
use Rattle.client_threads.specs.declared.clients.Client.{Client}
use Rattle.doc_model.specs.declared.command.Command.{Command}
use Rattle.mutator_threads.proofs.EachDone.{all_done, all_so}
use Rattle.mutator_threads.specs.declared.worker.Worker.{Worker}
use Rattle.run_limits.specs.declared.TheConstants.{MOST_COMMANDS}
use Rattle.version_rule.specs.Pass.{Pass}
use Rattle.doc_export.proofs.beside.run_clients.Goals as goal

pub run_each-requires-clause-ready : goal.run_each-requires-clause-ready
run_each-requires-clause-ready g c κs within =
    let heap = c.args.heap.now in
    let queue = c.args.queue.now in
    let limits = c.args.limits in
    all_so (λ (n : ℕ) (w : Worker Pass Client). IsReady heap queue limits n w)
    (λ (n : ℕ) (w : Worker Pass Client). (heap.shape.setting ≡ limits.keep)
    × (length (script_of c.args.scripts.now n) ≤ MOST_COMMANDS)
    × IsReady heap queue limits n w)
    (λ n w ready. (
      c.requires.keep,
      script_is (λ (script : List Command). length script ≤ MOST_COMMANDS) (omega arith)
          c.args.scripts.now n c.requires.short,
      ready,
    )) 0 c.args.clients.items c.requires.ready

pub returns-clause-done : goal.returns-clause-done
returns-clause-done g c =
    all_done _ (λ (n : ℕ) (w : Worker Pass Client).
    IsDone c.args.heap.now c.args.limits c.args.scripts.now n w)
    (λ place old new has. has) 0 c.args.clients.items c.run_each.result.items
    c.run_each.ensures.done
