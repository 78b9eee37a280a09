use Rattle.std.proofs.Common.{arith}
use Rattle.kids_avl.proofs.pool.height_above.Goals as goal

pub returns-then-left-right : goal.returns-then-left-right
returns-then-left-right c = omega arith
