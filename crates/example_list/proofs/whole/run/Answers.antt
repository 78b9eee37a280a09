use Rattle.std.proofs.Common.{◌∙◌, ℕ, List, ap, arith, length, sym}
use Rattle.std.proofs.lemmas.List.{length-map}
use Rattle.heap_rule.specs.Shape.{Shape}
use Rattle.heap_rule.specs.declared.keeping.NoRule.{NoRule}
use Rattle.mutator_threads.specs.Mutators.{views_of}
use Rattle.mutator_threads.specs.declared.worker.Worker.{Worker}
use Rattle.mutator_threads.proofs.EachDone.{all_done}
use Rattle.example_list.specs.Leaving.{HasPushed}
use Rattle.example_list.proofs.Ending.{leaves}
use Rattle.example_list.proofs.Openings.{opens_freely}
use Rattle.example_list.proofs.whole.run.Goals as goal

pub open-requires-clause-rule : goal.open-requires-clause-rule
open-requires-clause-rule g c = opens_freely 1700 c.args.threads

pub run_workers-workers-requires-clause-few : goal.run_workers-workers-requires-clause-few
run_workers-workers-requires-clause-few g c =
    let many = c.in_ok-opened.ensures.opened.many in
    omega (arith, many, c.ranges.threads)

pub close-closed-requires-clause-many : goal.close-closed-requires-clause-many
close-closed-requires-clause-many g c =
    c.run_workers-workers.ensures.many ∙ c.in_ok-opened.ensures.opened.many
    ∙ sym (ap (λ (h : Shape). h.mutators) c.in_ok-opened.ensures.opened.shape_is)

pub close-closed-requires-clause-over : goal.close-closed-requires-clause-over
close-closed-requires-clause-over g c =
    all_done _ (HasPushed c.in_ok-opened.opened.heap) (λ place old new has. has) 0
    c.in_ok-opened.opened.workers.items c.run_workers-workers.result.0.items
    c.run_workers-workers.ensures.done

pub close-closed-requires-clause-room : goal.close-closed-requires-clause-room
close-closed-requires-clause-room g c =
    let many = c.run_workers-workers.ensures.many ∙ c.in_ok-opened.ensures.opened.many in
    let room = c.in_ok-pushed.ensures.exact in
    omega (arith, many, room)

pub returns-clause-leaves : goal.returns-clause-leaves
returns-clause-leaves g c =
    leaves 1700 c.args.threads (views_of c.run_workers-workers.result.0.items)
    c.close-closed.result.0 c.in_ok-opened.opened.heap.shape
    c.in_ok-opened.ensures.opened.shape_is c.close-closed.ensures.closed

pub returns-clause-many : goal.returns-clause-many
returns-clause-many g c =
    ap (λ (xs : List ℕ). length xs) c.close-closed.ensures.own
    ∙ length-map c.run_workers-workers.result.0.items (λ (w : Worker NoRule ℕ). w.own)
    ∙ c.run_workers-workers.ensures.many ∙ c.in_ok-opened.ensures.opened.many
