use Rattle.std.proofs.Common.{[], subst}
use Rattle.mutator_seat.specs.Bound.{Bound, bound}
use Rattle.mutator_seat.specs.Claims.{Ends, Seeking}
use Rattle.mutator_seat.specs.Pacing.{Paces}
use Rattle.mutator_seat.specs.Searches.{Tries}
use Rattle.mutator_seat.specs.Stretches.{Calm}
use Rattle.mutator_seat.proofs.mutator.Mutator.handshake.Goals as goal

pub returns-clause-calm : goal.returns-clause-calm
returns-clause-calm g c =
    let after = bound c.self.inside.heap.now c.handshake.new.seat in
    subst (λ (m : Bound _). Calm (Ends m.seat.me.number m.seat.me.presence.status
    c.handshake.result) m after) c.self.view_is c.handshake.ensures.calm

pub returns-clause-seeking : goal.returns-clause-seeking
returns-clause-seeking g c =
    let after = bound c.self.inside.heap.now c.handshake.new.seat in
    subst (λ (m : Bound _). Calm Seeking m after) c.self.view_is c.handshake.ensures.seeking

pub returns-clause-idle : goal.returns-clause-idle
returns-clause-idle g c =
    let after = bound c.self.inside.heap.now c.handshake.new.seat in
    subst (λ (m : Bound _). Tries [] m after) c.self.view_is c.handshake.ensures.idle

pub returns-clause-pace : goal.returns-clause-pace
returns-clause-pace g c =
    let after = bound c.self.inside.heap.now c.handshake.new.seat in
    subst (λ (m : Bound _). Paces 65 1 m after) c.self.view_is c.handshake.ensures.pace
