use Rattle.std.proofs.Common.{◌+◌, arith}
use Rattle.mutator_seat.proofs.Pacing.{paces_none, paces_within}
use Rattle.mutator_seat.proofs.mutator.Mutator.look_at_times.Goals as goal

pub returns-then-tries-eq-TRIES-clause-pace : goal.returns-then-tries-eq-TRIES-clause-pace
returns-then-tries-eq-TRIES-clause-pace g c =
    paces_within c.args.self.now c.handshake.new.self 65 1 (c.args.tries + 1) 1
    (omega (arith, c.requires.few)) (omega arith) c.handshake.ensures.pace

pub returns-else-tries-eq-TRIES-clause-pace : goal.returns-else-tries-eq-TRIES-clause-pace
returns-else-tries-eq-TRIES-clause-pace g c =
    paces_none c.args.self.now (c.args.tries + 1) (c.args.tries + 1) (omega arith)
