use Rattle.std.proofs.Common.{subst}
use Rattle.mutator_seat.specs.Bound.{Bound, bound}
use Rattle.mutator_seat.specs.Stretches.{Calm, LookAndAnswer}
use Rattle.mutator_seat.proofs.mutator.Mutator.answer.Goals as goal

pub returns-clause-calm : goal.returns-clause-calm
returns-clause-calm g c =
    let after = bound c.self.inside.heap.now c.answer.new.seat in
    subst (λ (m : Bound _). Calm (LookAndAnswer m.seat.me.number m.seat.me.presence.status
    c.answer.result) m after) c.self.view_is c.answer.ensures.calm
