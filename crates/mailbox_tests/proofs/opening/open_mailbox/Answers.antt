use Rattle.std.proofs.Common.{arith}
use Rattle.mailbox_tests.proofs.Starting.{opens}
use Rattle.mailbox_tests.proofs.opening.open_mailbox.Goals as goal

pub open-requires-clause-rule : goal.open-requires-clause-rule
open-requires-clause-rule c =
    opens c.args.cells 2 0 _ c.opening_rows.ensures.rows (omega arith)
