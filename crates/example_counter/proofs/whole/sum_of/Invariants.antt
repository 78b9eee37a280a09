use Rattle.std.proofs.Common.{◌≡◌, sum_by, take}
use Rattle.example_counter.specs.declared.running.Adder.{Adder}
use Rattle.example_counter.proofs.whole.sum_of.Given as goal

abbrev pub invariant-loop-adder : goal.invariant-loop-adder
invariant-loop-adder l = l.sum ≡ sum_by (λ (a : Adder). a.sum) (take l.adder-index l.adders)
