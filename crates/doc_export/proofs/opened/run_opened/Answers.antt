use Rattle.std.proofs.Common.{rules, ◌≡◌, ◌≤◌, ◌∙◌, ap, arith, subst, sym}
use Rattle.client_session.specs.declared.journal.Limits.{Limits}
use Rattle.heap_rule.specs.Shape.{Shape}
use Rattle.doc_export.specs.Workers.{AllReady}
use Rattle.doc_export.proofs.Closing.{all_over, all_workers, left, may_dump, own_many}
use Rattle.doc_export.proofs.opened.run_opened.Goals as goal

pub run_alongside-done-requires-clause-work : goal.run_alongside-done-requires-clause-work
run_alongside-done-requires-clause-work g c κs within =
    let store = c.args.opened.store in
    let opened = c.requires.opened.store in
    let limits = c.client_limits-limits.result in
    let are = c.client_limits-limits.ensures.limits in
    let keep : store.heap.shape.setting ≡ limits.keep =
    ap (λ (h : Shape). h.setting) opened.shape_is ∙ sym (ap (λ (l : Limits). l.keep) are) in
    let minor = ap (λ (l : Limits). l.minor) are in
    let least = c.requires.options.minor.0 in
    let enough : 4_096 ≤ limits.minor = omega (arith, minor, least) in (
      (
        search rules,
        search rules,
        c.requires.opened.few,
        c.requires.short,
        keep,
        enough,
        subst (λ (l : Limits). AllReady store.heap store.queue l store.workers.items) (sym are)
            opened.workers,
        opened.many,
      ),
      search rules,
    )

pub close-closed-requires-clause-many : goal.close-closed-requires-clause-many
close-closed-requires-clause-many g c =
    let done = c.run_alongside-done.result.0 in
    all_workers c.args.opened.store.heap c.client_limits-limits.result c.args.scripts.now
    done.0.items done.1 c.run_alongside-done.ensures.done
    ∙ sym (ap (λ (h : Shape). h.mutators) c.requires.opened.store.shape_is)

pub close-closed-requires-clause-over : goal.close-closed-requires-clause-over
close-closed-requires-clause-over g c =
    let done = c.run_alongside-done.result.0 in
    all_over c.args.opened.store.heap c.client_limits-limits.result c.args.scripts.now
    done.0.items done.1 c.run_alongside-done.ensures.done

pub close-closed-requires-clause-room : goal.close-closed-requires-clause-room
close-closed-requires-clause-room g c =
    let done = c.run_alongside-done.result.0 in
    let many = all_workers c.args.opened.store.heap c.client_limits-limits.result
    c.args.scripts.now done.0.items done.1 c.run_alongside-done.ensures.done in
    let room = c.requires.opened.room_for_clients in
    omega (arith, many, room)

pub take_logs-failed-requires-clause-room : goal.take_logs-failed-requires-clause-room
take_logs-failed-requires-clause-room g c =
    let done = c.run_alongside-done.result.0 in
    let many = own_many c.args.opened.store.heap c.client_limits-limits.result
    c.args.scripts.now done.0.items done.1 c.run_alongside-done.ensures.done
    c.close-closed.result.1.items c.truncate.new.self.items c.close-closed.ensures.own
    c.truncate.ensures.items in
    omega (arith, many, c.requires.room)

pub returns : goal.returns
returns g c =
    let done = c.run_alongside-done.result.0 in
    let store = c.args.opened.store in
    let limits = c.client_limits-limits.result in
    let all = c.close-closed.result.1.items in
    let own = c.truncate.new.self.items in
    let closed = c.close-closed.result.0 in
    let is = c.close-closed.ensures.closed.has_closed in
    let logs = c.take_logs-failed.new.logs.items in
    record {
      dumps = may_dump store.heap limits c.args.scripts.now done.0.items done.1
          c.run_alongside-done.ensures.done all own c.close-closed.ensures.own
          c.truncate.ensures.items logs c.take_logs-failed.result c.take_logs-failed.ensures.logs
          c.take_logs-failed.ensures.failed closed.passes is.places_are c.args.options.now
          c.requires.options c.client_limits-limits.ensures.limits
          c.requires.opened.store.shape_is closed.image.words closed.freed is.ended is.collected;
      whole = (left store.heap limits c.args.scripts.now done.0.items done.1
          c.run_alongside-done.ensures.done all own c.close-closed.ensures.own
          c.truncate.ensures.items logs c.take_logs-failed.result c.take_logs-failed.ensures.logs
          c.take_logs-failed.ensures.failed closed.passes is.places_are).whole;
    }
