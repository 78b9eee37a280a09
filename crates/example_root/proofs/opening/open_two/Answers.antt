use Rattle.example_root.proofs.Openings.{opens}
use Rattle.example_root.proofs.opening.open_two.Goals as goal

pub open-requires-clause-rule : goal.open-requires-clause-rule
open-requires-clause-rule g c = opens c.args.cells
