use Rattle.std.proofs.Common.{◌≤◌, ◌∙◌, ℕ, List, All, Some, ap, arith, length, subst, sym}
use Rattle.std.proofs.lemmas.List.{length-map}
use Rattle.heap_rule.specs.Shape.{Shape}
use Rattle.mutator_threads.specs.declared.worker.Worker.{Worker}
use Rattle.mutator_threads.proofs.EachDone.{all_done, all_own}
use Rattle.example_counter.specs.Adding.{HasAdded}
use Rattle.example_counter.specs.Leaving.{Leaves}
use Rattle.example_counter.specs.declared.counter.Added.{Added}
use Rattle.example_counter.specs.declared.running.Adder.{Adder}
use Rattle.example_counter.proofs.Ending.{leaves}
use Rattle.example_counter.proofs.whole.run.Goals as goal

pub run_workers-workers-requires-clause-few : goal.run_workers-workers-requires-clause-few
run_workers-workers-requires-clause-few g c =
    let many = c.in_ok-opened.ensures.opened.many in
    omega (arith, many, c.ranges.threads)

pub close-closed-requires-clause-many : goal.close-closed-requires-clause-many
close-closed-requires-clause-many g c =
    c.run_workers-workers.ensures.many ∙ c.in_ok-opened.ensures.opened.many
    ∙ sym (ap (λ (h : Shape). h.mutators) c.in_ok-opened.ensures.opened.shape_is)

pub close-closed-requires-clause-over : goal.close-closed-requires-clause-over
close-closed-requires-clause-over g c =
    all_done _ _ (λ place old new has. has.is_over) 0 c.in_ok-opened.opened.workers.items
    c.run_workers-workers.result.0.items c.run_workers-workers.ensures.done

pub close-closed-requires-clause-room : goal.close-closed-requires-clause-room
close-closed-requires-clause-room g c =
    let many = c.run_workers-workers.ensures.many ∙ c.in_ok-opened.ensures.opened.many in
    let room = c.in_ok-adders.ensures.exact in
    omega (arith, many, room)

pub sum_of-sum-requires-clause-few : goal.sum_of-sum-requires-clause-few
sum_of-sum-requires-clause-few g c =
    let workers = c.run_workers-workers.result.0.items in
    let same = ap (λ (xs : List Adder). length xs) c.close-closed.ensures.own in
    let own = length-map workers (λ (w : Worker Added Adder). w.own) in
    let many = c.run_workers-workers.ensures.many ∙ c.in_ok-opened.ensures.opened.many in
    omega (arith, same, own, many, c.ranges.threads)

pub sum_of-sum-requires-clause-small : goal.sum_of-sum-requires-clause-small
sum_of-sum-requires-clause-small g c =
    subst (λ (adders : List Adder). All (λ (a : Adder). a.sum ≤ 4294967295) adders)
    (sym (c.deref.ensures.value ∙ c.close-closed.ensures.own))
    (all_own (HasAdded c.in_ok-opened.opened.heap) (λ (a : Adder). a.sum ≤ 4294967295)
    (λ place worker has. has.few) 0 c.run_workers-workers.result.0.items
    (all_done _ (HasAdded c.in_ok-opened.opened.heap) (λ place old new has. has) 0
    c.in_ok-opened.opened.workers.items c.run_workers-workers.result.0.items
    c.run_workers-workers.ensures.done))

pub returns : goal.returns
returns g c =
    let heap = c.in_ok-opened.opened.heap in
    let workers = c.run_workers-workers.result.0.items in
    let closed = c.close-closed.result.0 in
    let sum = c.sum_of-sum.ensures.sum in
    let left = leaves heap 64 c.args.threads workers c.deref.result.now closed
    (c.deref.ensures.value ∙ c.close-closed.ensures.own)
    (all_done _ (HasAdded heap) (λ place old new has. has) 0
    c.in_ok-opened.opened.workers.items workers c.run_workers-workers.ensures.done)
    c.in_ok-opened.ensures.opened.shape_is c.close-closed.ensures.closed in
    record {
      leaves = subst (λ (n : ℕ). Leaves 64 c.args.threads n closed.freed closed.image closed.passes)
          (sym sum) left;
      counter = c.counter_of-counter.ensures.counter left.ended.shows.core left.shows
          ∙ left.counter ∙ ap (λ (n : ℕ). Some n) (sym sum);
    }
