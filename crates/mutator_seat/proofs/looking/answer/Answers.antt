use Rattle.std.proofs.Common.{◌∙◌, ap, sym}
use Rattle.cell_words.specs.Modes.{next_status_of}
use Rattle.cell_words.specs.declared.presences.Status.{Status}
use Rattle.core_machine.specs.Words.{requests}
use Rattle.mutator_seat.specs.Bound.{Bound, bound}
use Rattle.mutator_seat.specs.Stretches.{asks_next}
use Rattle.mutator_seat.proofs.Handshakes.{answered, unasked}
use Rattle.mutator_seat.proofs.looking.answer.Goals as goal

pub answer_asked-requires-clause-asked : goal.answer_asked-requires-clause-asked
answer_asked-requires-clause-asked g c =
    let own = c.look_once-control.new.seat.me.presence.status in
    ap (λ (m : Bound _). requests m.seat.me.own.mode (next_status_of own))
    c.look_once-control.ensures.told
    ∙ ap (λ (own : Status). asks_next c.look_once-control.result own) (sym c.status.ensures.status)
    ∙ sym c.if-asks_next.ensures.asks

pub returns-then-asks_next-clause-calm : goal.returns-then-asks_next-clause-calm
returns-then-asks_next-clause-calm g c =
    let heap = c.args.heap.now in
    answered (bound heap c.args.seat.now) (bound heap c.look_once-control.new.seat)
    (bound heap c.answer_asked.new.seat) c.look_once-control.result
    c.look_once-control.ensures.told
    (c.if-asks_next.ensures.asks
    ∙ ap (λ (own : Status). asks_next c.look_once-control.result own) c.status.ensures.status)
    c.answer_asked.ensures.calm

pub returns-else-asks_next-clause-calm : goal.returns-else-asks_next-clause-calm
returns-else-asks_next-clause-calm g c =
    let heap = c.args.heap.now in
    unasked (bound heap c.args.seat.now) (bound heap c.look_once-control.new.seat)
    c.look_once-control.result c.look_once-control.ensures.told
    (c.if-asks_next.ensures.asks
    ∙ ap (λ (own : Status). asks_next c.look_once-control.result own) c.status.ensures.status)
