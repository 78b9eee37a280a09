use Rattle.std.proofs.Common.{arith}
use Rattle.heap_c.proofs.Naming.{can_mean, no_such_tag, of_other_turn}
use Rattle.heap_c.proofs.records.given.Goals as goal
