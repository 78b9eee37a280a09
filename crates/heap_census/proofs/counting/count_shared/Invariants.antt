use Rattle.std.proofs.Common.{◌≡◌, get_or}
use Rattle.heap_census.specs.Counts.{count_below}
use Rattle.heap_census.specs.Times.{is_often, never}
use Rattle.heap_census.proofs.counting.count_shared.Given as goal

abbrev pub invariant-loop-named : goal.invariant-loop-named
invariant-loop-named l =
    l.count ≡ count_below (λ c. is_often (get_or l.times c never)) l.named-index
