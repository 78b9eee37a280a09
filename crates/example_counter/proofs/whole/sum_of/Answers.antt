use Rattle.std.proofs.Common.{ap, arith}
use Rattle.mutator_threads.proofs.Sums.{sum_fits}
use Rattle.example_counter.specs.declared.running.Adder.{Adder}
use Rattle.example_counter.proofs.whole.sum_of.Goals as goal

pub overflow_add-sum : goal.overflow_add-sum
overflow_add-sum c =
    let fits = sum_fits (λ (a : Adder). a.sum) c.args.adders.now c.loop-adder.adder-index
    c.adder-item.result c.requires.few c.requires.small c.loop-adder-test.true in
    let same = ap (λ (a : Adder). a.sum) c.adder-item.is in
    let so = c.loop-adder.invariant in
    omega (arith, fits, same, so)
