use Rattle.std.proofs.Common.{arith}
use Rattle.heap_c.proofs.Turning.{renumbered}
use Rattle.heap_c.proofs.turns.Turns.steady_after.Goals as goal

pub returns-else-turn-self-clause-renumbers : goal.returns-else-turn-self-clause-renumbers
returns-else-turn-self-clause-renumbers c = renumbered c.args.self _ (omega (arith))
