use Rattle.std.proofs.Common.{None}
use Rattle.cell_tests.proofs.closed.closed.Goals as goal

pub open-requires-clause-rule : goal.open-requires-clause-rule
open-requires-clause-rule c = (λ cell. None, c.requires.boxes, tt)
