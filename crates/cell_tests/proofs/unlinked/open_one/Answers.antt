use Rattle.cell_tests.proofs.Opens.{opens_freely}
use Rattle.cell_tests.proofs.unlinked.open_one.Goals as goal

pub open-requires-clause-rule : goal.open-requires-clause-rule
open-requires-clause-rule c = opens_freely
