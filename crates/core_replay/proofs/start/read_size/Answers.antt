use Rattle.std.proofs.Common.{◌≤◌, arith, rules}
use Rattle.core_replay.proofs.start.read_size.Goals as goal

-- no size is zero
pub returns-clause-size : goal.returns-clause-size
returns-clause-size c = let some : 1 ≤ c.in_ok-size.size = omega arith in search rules

pub returns-clause-allowed : goal.returns-clause-allowed
returns-clause-allowed c = (omega arith, search rules)
