use Rattle.cell_tests.proofs.Opens.{opens}
use Rattle.cell_tests.proofs.closing.open_two.Goals as goal

pub open-requires-clause-rule : goal.open-requires-clause-rule
open-requires-clause-rule c = opens c.args.cells
