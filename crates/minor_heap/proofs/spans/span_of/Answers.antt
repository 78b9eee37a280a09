use Rattle.std.proofs.Common.{◌<◌, ◌≤◌, All, List, length, subst, arith}
use Rattle.std.proofs.lemmas.List.{take_all}
use Rattle.std.proofs.lemmas.List.Elements.{All-more}
use Rattle.minor_heap.specs.declared.fields.MinorRef.{MinorRef}
use Rattle.minor_heap.proofs.spans.span_of.Goals as goal

pub loop-r-preserved : goal.loop-r-preserved
loop-r-preserved c =
    let from = c.args.from.now in
    let i = c.loop-r.r-index in
    let so = c.loop-r.invariant in
    let d : MinorRef = record { number = 0 } in
    let lt : i < length from = c.loop-r-test.true in
    record {
      first = All-more (λ (r : MinorRef). c.min-first.result ≤ r.number) from i d lt
          (λ k e there. let l = so.first k e there in omega (arith, l, c.min-first.ensures))
          (omega (arith, c.min-first.ensures));
      last = All-more (λ (r : MinorRef). r.number < c.max-end.result) from i d lt
          (λ k e there. let l = so.last k e there in omega (arith, l, c.max-end.ensures))
          (omega (arith, c.max-end.ensures));
      end = (let l = c.requires.stand i d lt in omega (arith, l, so.end, c.max-end.ensures));
    }

pub returns-clause-first : goal.returns-clause-first
returns-clause-first c =
    subst (λ (rs : List MinorRef). All (λ (r : MinorRef). c.loop-r.first ≤ r.number) rs)
    (take_all c.loop-r.r-index c.args.from.now c.loop-r-test.false) c.loop-r.invariant.first

pub returns-clause-last : goal.returns-clause-last
returns-clause-last c =
    subst (λ (rs : List MinorRef). All (λ (r : MinorRef). r.number < c.loop-r.end) rs)
    (take_all c.loop-r.r-index c.args.from.now c.loop-r-test.false) c.loop-r.invariant.last
