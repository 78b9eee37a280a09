use Rattle.std.proofs.Common.{◌≡◌, ◌≤◌, ◌∙◌, ℕ, List, All, ap, arith, length, map}
use Rattle.std.proofs.Common.{refl, subst, sym}
use Rattle.std.proofs.lemmas.List.{length-map}
use Rattle.beside_collector.specs.Places.{AllFrom}
use Rattle.beside_collector.specs.Scripts.{script_of}
use Rattle.beside_collector.proofs.Scripts.{script_is}
use Rattle.doc_model.specs.declared.command.Command.{Command}
use Rattle.client_run.specs.Options.{shape_of}
use Rattle.client_session.specs.declared.journal.Limits.{Limits}
use Rattle.client_threads.specs.Clients.{IsDone, IsReady}
use Rattle.client_threads.specs.Taken.{lists_of}
use Rattle.client_threads.specs.declared.clients.Client.{Client}
use Rattle.client_threads.proofs.TakingBack.{clients_over, have_left}
use Rattle.doc_model.specs.ClientLog.{ClientLog}
use Rattle.heap_rule.specs.Shape.{Shape}
use Rattle.mutator_threads.proofs.EachDone.{all_done, all_so}
use Rattle.mutator_threads.specs.declared.worker.Worker.{Worker}
use Rattle.run_limits.specs.declared.TheConstants.{MOST_COMMANDS}
use Rattle.store_run.specs.Answered.{commands_of}
use Rattle.store_run.specs.Finished.{IsTotals}
use Rattle.version_rule.specs.Pass.{Pass}
use Rattle.store_run.proofs.Closed.{comes, counted}
use Rattle.store_run.proofs.Ending.{closing, many_lists, shaped, short_logs}
use Rattle.store_run.proofs.opened.run_opened.Goals as goal

pub run_workers-workers-requires-clause-few : goal.run_workers-workers-requires-clause-few
run_workers-workers-requires-clause-few g c =
    let many = c.requires.opened.store.many in
    let few = c.requires.opened.few in
    omega (arith, many, few)

pub run_workers-workers-requires-clause-ready : goal.run_workers-workers-requires-clause-ready
run_workers-workers-requires-clause-ready g c κs within =
    let store = c.args.opened.store in
    let opened = c.requires.opened.store in
    let limits = c.client_limits-limits.result in
    let keep : store.heap.shape.setting ≡ limits.keep =
    ap (λ (h : Shape). h.setting) opened.shape_is
    ∙ sym (ap (λ (l : Limits). l.keep) c.client_limits-limits.ensures.limits) in
    all_so (λ (n : ℕ) (w : Worker Pass Client).
    IsReady store.heap store.queue limits n w)
    (λ (n : ℕ) (w : Worker Pass Client). (store.heap.shape.setting ≡ limits.keep)
    × (length (script_of c.args.scripts.now n) ≤ MOST_COMMANDS)
    × IsReady store.heap store.queue limits n w)
    (λ n w ready. (
      keep,
      script_is (λ (script : List Command). length script ≤ MOST_COMMANDS) (omega arith)
          c.args.scripts.now n c.requires.short,
      ready,
    )) 0 store.workers.items
    (subst (λ (l : Limits). AllFrom (λ (n : ℕ) (w : Worker Pass Client).
    IsReady store.heap store.queue l n w) 0 store.workers.items)
    (sym c.client_limits-limits.ensures.limits) opened.workers)

pub close-closed-requires-clause-many : goal.close-closed-requires-clause-many
close-closed-requires-clause-many g c =
    let opened = c.requires.opened.store in
    c.run_workers-workers.ensures.many ∙ opened.many
    ∙ sym (ap (λ (h : Shape). h.mutators) opened.shape_is)

pub close-closed-requires-clause-over : goal.close-closed-requires-clause-over
close-closed-requires-clause-over g c =
    let store = c.args.opened.store in
    clients_over store.heap c.client_limits-limits.result c.args.scripts.now
    c.run_workers-workers.result.0.items
    (all_done _ (λ (n : ℕ) (w : Worker Pass Client).
    IsDone store.heap c.client_limits-limits.result c.args.scripts.now n w)
    (λ place old new has. has) 0 store.workers.items c.run_workers-workers.result.0.items
    c.run_workers-workers.ensures.done)

pub close-closed-requires-clause-room : goal.close-closed-requires-clause-room
close-closed-requires-clause-room g c =
    let many = c.run_workers-workers.ensures.many ∙ c.requires.opened.store.many in
    let room = c.requires.opened.room_for_clients in
    omega (arith, many, room)

pub take_logs-failed-requires-clause-room : goal.take_logs-failed-requires-clause-room
take_logs-failed-requires-clause-room g c =
    let workers = c.run_workers-workers.result.0.items in
    let own = ap (λ (cs : List Client). length cs) c.close-closed.ensures.own
    ∙ length-map workers (λ (w : Worker Pass Client). w.own) in
    let many = c.run_workers-workers.ensures.many ∙ c.requires.opened.store.many in
    let room = c.requires.opened.room_for_logs in
    omega (arith, own, many, room)

pub totals_of-totals-requires : goal.totals_of-totals-requires
totals_of-totals-requires g c =
    let o = c.args.options.now in
    let store = c.args.opened.store in
    let opened = c.requires.opened.store in
    let limits = c.client_limits-limits.result in
    let scripts = c.args.scripts.now in
    let workers = c.run_workers-workers.result.0.items in
    let logs = c.take_logs-failed.new.logs.items in
    let closed = c.close-closed.result.0 in
    let is = c.close-closed.ensures.closed.has_closed in
    let left = have_left store.heap limits scripts workers
    (all_done _ (λ (n : ℕ) (w : Worker Pass Client). IsDone store.heap limits scripts n w)
    (λ place old new has. has) 0 store.workers.items workers
    c.run_workers-workers.ensures.done)
    (c.run_workers-workers.ensures.many ∙ opened.many) c.close-closed.result.1.items logs
    c.take_logs-failed.result closed.passes.places is.places_are c.close-closed.ensures.own
    c.take_logs-failed.ensures.logs c.take_logs-failed.ensures.failed in
    let same = ap (λ (gs : List ClientLog). length gs) c.deref.ensures.value in
    let many = left.taken.many in
    let few = c.requires.opened.few in
    record {
      few = omega (arith, same, many, few);
      short = subst (λ (gs : List ClientLog).
          All (λ (log : ClientLog). length log.entries ≤ MOST_COMMANDS) gs)
          (sym c.deref.ensures.value) (short_logs scripts logs c.requires.short left.fronts);
      freed = is.few_freed;
      counted = counted o (lists_of scripts) logs closed.image closed.passes
          (closing o scripts store.heap.shape limits logs (lists_of scripts) closed.passes
          opened.shape_is c.requires.some c.requires.options c.client_limits-limits.ensures.limits
          left.taken (many_lists scripts))
          store.heap.shape (shaped o scripts store.heap.shape opened.shape_is) is.ended is.shows
          closed.number_freed is.number_freed_is;
    }

pub returns : goal.returns
returns g c =
    let o = c.args.options.now in
    let store = c.args.opened.store in
    let opened = c.requires.opened.store in
    let limits = c.client_limits-limits.result in
    let scripts = c.args.scripts.now in
    let workers = c.run_workers-workers.result.0.items in
    let logs = c.take_logs-failed.new.logs.items in
    let closed = c.close-closed.result.0 in
    let is = c.close-closed.ensures.closed.has_closed in
    let left = have_left store.heap limits scripts workers
    (all_done _ (λ (n : ℕ) (w : Worker Pass Client). IsDone store.heap limits scripts n w)
    (λ place old new has. has) 0 store.workers.items workers
    c.run_workers-workers.ensures.done)
    (c.run_workers-workers.ensures.many ∙ opened.many) c.close-closed.result.1.items logs
    c.take_logs-failed.result closed.passes.places is.places_are c.close-closed.ensures.own
    c.take_logs-failed.ensures.logs c.take_logs-failed.ensures.failed in
    let totals = c.totals_of-totals.result in
    let answered = map commands_of logs in
    let many : length answered ≡ length scripts = length-map logs commands_of ∙ left.taken.many in
    let shape : store.heap.shape ≡ shape_of o (length answered) =
    opened.shape_is ∙ ap (λ (n : ℕ). shape_of o n) (sym many) in
    record {
      comes = comes o answered logs closed.image closed.passes
          (closing o scripts store.heap.shape limits logs answered closed.passes opened.shape_is
          c.requires.some c.requires.options c.client_limits-limits.ensures.limits left.taken many)
          store.heap.shape shape is.ended is.shows closed.freed is.collected totals
          record {
            freed = closed.number_freed;
            freed_is = is.number_freed_is;
            are = λ counted. subst (λ (gs : List ClientLog).
                IsTotals counted.core gs counted.trees totals)
                c.deref.ensures.value (c.totals_of-totals.ensures.totals counted);
            balance = c.totals_of-totals.ensures.balance;
            all_cells = c.totals_of-totals.ensures.all_cells ∙ is.cells_are
                ∙ ap (λ (h : Shape). h.cells) shape;
          } refl;
      fronts = left.fronts;
      whole = left.whole;
    }
