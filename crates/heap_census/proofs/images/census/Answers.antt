use Rattle.std.proofs.Common.{refl}
use Rattle.heap_census.specs.Heap.{heap_of}
use Rattle.heap_census.proofs.images.census.Goals as goal

pub returns-clause-found : goal.returns-clause-found
returns-clause-found c = λ s shows. c.in_ok-found.ensures.found (heap_of s) (s, shows, refl)

pub returns-clause-counts : goal.returns-clause-counts
returns-clause-counts c = λ s shows. c.in_ok-found.ensures.counts (heap_of s) (s, shows, refl)

pub returns-clause-sum : goal.returns-clause-sum
returns-clause-sum c = λ s shows. c.in_ok-found.ensures.sum (heap_of s) (s, shows, refl)
