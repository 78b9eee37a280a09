use Rattle.example_log.proofs.Openings.{opens}
use Rattle.example_log.proofs.opening.open_log.Goals as goal

pub open-requires-clause-rule : goal.open-requires-clause-rule
open-requires-clause-rule g c = opens c.args.cells c.args.threads
