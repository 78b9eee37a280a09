use Rattle.collector_tests.proofs.Terms.{two_have}
use Rattle.collector_tests.proofs.heaps.open_two.Goals as goal

pub open-requires-clause-terms : goal.open-requires-clause-terms
open-requires-clause-terms c = two_have
