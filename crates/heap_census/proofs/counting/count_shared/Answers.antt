use Rattle.std.proofs.Common.{◌∙◌, ℕ, Bool, arith, get_or, sym}
use Rattle.heap_census.specs.Times.{is_often, never}
use Rattle.heap_census.proofs.Counted.{count_yes, count_no, count_below-le}
use Rattle.heap_census.proofs.counting.count_shared.Goals as goal
use Rattle.heap_census.proofs.counting.count_shared.Goals.{then-is_often, else-is_often}

pub overflow_add-count : goal.overflow_add-count
overflow_add-count c =
    let few = count_below-le (λ n. is_often (get_or c.args.times.now n never))
    c.loop-named.named-index in
    omega (arith, few, c.loop-named.invariant, c.loop-named-test.true, c.requires)

pub loop-named-preserved : goal.loop-named-preserved
loop-named-preserved c =
    let test : ℕ → Bool = λ n. is_often (get_or c.args.times.now n never) in
    let i = c.loop-named.named-index in
    elim c.if-is_often.branch [
      | then-is_often w ↦ w.count-is
          ∙ count_yes test i c.loop-named.count c.loop-named.invariant
          (sym c.is_often.ensures ∙ w.if-is_often.true)
      | else-is_often w ↦ w.count-is
          ∙ count_no test i c.loop-named.count c.loop-named.invariant
          (sym c.is_often.ensures ∙ w.if-is_often.false)
    ]
