use Rattle.std.proofs.Common.{◌≡◌, ◌≤◌, ◌∙◌, ◌+◌, ℕ, List, All, ap, arith, length, subst, sum, sym}
use Rattle.std.proofs.lemmas.List.{length-map}
use Rattle.core_machine.specs.State.{field_of}
use Rattle.heap_rule.specs.Shape.{Shape}
use Rattle.mutator_threads.specs.declared.worker.Worker.{Worker}
use Rattle.mutator_threads.proofs.EachDone.{all_done, all_own}
use Rattle.example_log.specs.Appending.{HasAppended}
use Rattle.example_log.specs.Leaving.{log_shape}
use Rattle.example_log.specs.declared.log.Appended.{Appended}
use Rattle.example_log.proofs.Ending.{boxes_are, leaves}
use Rattle.example_log.proofs.whole.run.Goals as goal

pub run_workers-workers-requires-clause-few : goal.run_workers-workers-requires-clause-few
run_workers-workers-requires-clause-few g c =
    let many = c.in_ok-opened.ensures.opened.many in
    omega (arith, many, c.ranges.threads)

pub close-closed-requires-clause-many : goal.close-closed-requires-clause-many
close-closed-requires-clause-many g c =
    c.run_workers-workers.ensures.many ∙ c.in_ok-opened.ensures.opened.many
    ∙ sym (ap (λ (h : Shape). h.mutators) c.in_ok-opened.ensures.opened.shape_is)

pub close-closed-requires-clause-over : goal.close-closed-requires-clause-over
close-closed-requires-clause-over g c =
    all_done _ _ (λ place old new has. has.is_over) 0 c.in_ok-opened.opened.workers.items
    c.run_workers-workers.result.0.items c.run_workers-workers.ensures.done

pub close-closed-requires-clause-room : goal.close-closed-requires-clause-room
close-closed-requires-clause-room g c =
    let many = c.run_workers-workers.ensures.many ∙ c.in_ok-opened.ensures.opened.many in
    let room = c.in_ok-counts.ensures.exact in
    omega (arith, many, room)

pub sum_of-sum-requires-clause-few : goal.sum_of-sum-requires-clause-few
sum_of-sum-requires-clause-few g c =
    let workers = c.run_workers-workers.result.0.items in
    let same = ap (λ (xs : List ℕ). length xs) c.close-closed.ensures.own in
    let own = length-map workers (λ (w : Worker Appended ℕ). w.own) in
    let many = c.run_workers-workers.ensures.many ∙ c.in_ok-opened.ensures.opened.many in
    omega (arith, same, own, many, c.ranges.threads)

pub sum_of-sum-requires-clause-small : goal.sum_of-sum-requires-clause-small
sum_of-sum-requires-clause-small g c =
    subst (λ (counts : List ℕ). All (λ (n : ℕ). n ≤ 4294967295) counts)
    (sym (c.deref.ensures.value ∙ c.close-closed.ensures.own))
    (all_own (HasAppended c.in_ok-opened.opened.heap) (λ (n : ℕ). n ≤ 4294967295)
    (λ place worker has. has.few) 0 c.run_workers-workers.result.0.items
    (all_done _ (HasAppended c.in_ok-opened.opened.heap) (λ place old new has. has) 0
    c.in_ok-opened.opened.workers.items c.run_workers-workers.result.0.items
    c.run_workers-workers.ensures.done))

pub returns : goal.returns
returns g c =
    let heap = c.in_ok-opened.opened.heap in
    let workers = c.run_workers-workers.result.0.items in
    let counts = c.close-closed.result.1.items in
    let so_many = c.run_workers-workers.ensures.many ∙ c.in_ok-opened.ensures.opened.many in
    let many : length counts ≡ c.args.threads =
    ap (λ (xs : List ℕ). length xs) c.close-closed.ensures.own
    ∙ length-map workers (λ (w : Worker Appended ℕ). w.own) ∙ so_many in
    let left = leaves heap 1000 workers counts c.close-closed.result.0 c.close-closed.ensures.own
    (all_done _ (HasAppended heap) (λ place old new has. has) 0
    c.in_ok-opened.opened.workers.items workers c.run_workers-workers.ensures.done)
    (c.in_ok-opened.ensures.opened.shape_is
    ∙ ap (λ (n : ℕ). log_shape 1000 n) (sym so_many))
    c.close-closed.ensures.closed in
    let same = c.deref.ensures.value in
    let total : c.sum_of-sum.result ≡ sum counts =
    c.sum_of-sum.ensures.sum ∙ ap (λ (xs : List ℕ). sum xs) same in
    let fit = ap (λ (xs : List ℕ). length xs) same in
    let small = c.sum_of-sum.ensures.small in
    let s = left.ended.shows.core in
    let writers = left.many in
    record {
      leaves = left;
      many = many;
      boxes = c.count_boxes-boxes.ensures.boxes s left.shows
          ∙ boxes_are s left.writers (field_of s 0 0) _ left.log (omega (arith, writers, total))
          ∙ ap (λ (n : ℕ). n + 1) (writers ∙ sym total);
      sum = total;
      small = omega (arith, small, many, fit);
    }
