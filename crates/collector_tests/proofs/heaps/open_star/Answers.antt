use Rattle.collector_tests.proofs.Terms.{star_have}
use Rattle.collector_tests.proofs.heaps.open_star.Goals as goal

pub open_one-requires-clause-terms : goal.open_one-requires-clause-terms
open_one-requires-clause-terms c = star_have
