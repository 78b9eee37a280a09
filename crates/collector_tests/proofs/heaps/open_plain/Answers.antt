use Rattle.collector_tests.proofs.Terms.{plain_terms}
use Rattle.collector_tests.proofs.heaps.open_plain.Goals as goal

pub open_one-requires-clause-terms : goal.open_one-requires-clause-terms
open_one-requires-clause-terms c = plain_terms
