use Rattle.example_counter.proofs.Openings.{opens}
use Rattle.example_counter.proofs.opening.open_counter.Goals as goal

pub open-requires-clause-rule : goal.open-requires-clause-rule
open-requires-clause-rule g c = opens c.args.cells c.args.threads
