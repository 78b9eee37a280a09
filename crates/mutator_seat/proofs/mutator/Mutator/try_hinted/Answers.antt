use Rattle.std.proofs.Common.{arith}
use Rattle.mutator_seat.proofs.Pacing.{paces_none}
use Rattle.mutator_seat.proofs.mutator.Mutator.try_hinted.Goals as goal

pub returns-in-None-clause-pace : goal.returns-in-None-clause-pace
returns-in-None-clause-pace g c = paces_none c.args.self.now 1 65 (omega arith)
