use Rattle.std.proofs.Common.{ℕ, arith}
use Rattle.std.proofs.lemmas.List.Sums.{sum_by-le, sum_by-take-le}
use Rattle.mutator_threads.proofs.Sums.{sum_fits}
use Rattle.example_log.proofs.whole.sum_of.Goals as goal

pub overflow_add-sum : goal.overflow_add-sum
overflow_add-sum c =
    let fits = sum_fits (λ (n : ℕ). n) c.args.counts.now c.loop-count.count-index 0 c.requires.few
    c.requires.small c.loop-count-test.true in
    let so = c.loop-count.invariant in
    omega (arith, fits, so)

pub returns-clause-small : goal.returns-clause-small
returns-clause-small c =
    let counts = c.args.counts.now in
    let part = sum_by-take-le (λ (n : ℕ). n) counts c.loop-count.count-index in
    let all = sum_by-le (λ (n : ℕ). n) 4294967295 counts c.requires.small in
    let so = c.loop-count.invariant in
    omega (arith, part, all, so)
