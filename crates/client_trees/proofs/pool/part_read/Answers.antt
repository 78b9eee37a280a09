use Rattle.std.proofs.Common.{refl}
use Rattle.client_trees.proofs.pool.part_read.Goals as goal

pub returns-in-Shared : goal.returns-in-Shared
returns-in-Shared c = rw c.in-Shared.is refl
