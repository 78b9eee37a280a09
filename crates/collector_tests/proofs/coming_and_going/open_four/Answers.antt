use Rattle.collector_tests.proofs.Terms.{plain_terms}
use Rattle.collector_tests.proofs.coming_and_going.open_four.Goals as goal

pub open-requires-clause-terms : goal.open-requires-clause-terms
open-requires-clause-terms c = plain_terms
