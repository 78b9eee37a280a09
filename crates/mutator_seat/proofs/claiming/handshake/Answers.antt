use Rattle.std.proofs.Common.{[], arith}
use Rattle.mutator_seat.specs.Bound.{bound}
use Rattle.mutator_seat.specs.Claims.{Seeking}
use Rattle.mutator_seat.specs.Stretches.{LookAndAnswer}
use Rattle.mutator_seat.proofs.Calm.{calm_as}
use Rattle.mutator_seat.proofs.Pacing.{paces_answer, paces_look, paces_then}
use Rattle.mutator_seat.proofs.Searching.{tries_answer, tries_idle, tries_look}
use Rattle.mutator_seat.proofs.Seeking.{answer_seeks, look_seeks, seeking_then}
use Rattle.mutator_seat.proofs.Tries.{ends_then}
use Rattle.mutator_seat.proofs.claiming.handshake.Goals as goal

pub returns-clause-calm : goal.returns-clause-calm
returns-clause-calm g c =
    let heap = c.args.heap.now in
    ends_then (bound heap c.args.seat.now) (bound heap c.answer.new.seat)
    (bound heap c.look_once.new.seat) c.answer.result c.look_once.result c.answer.ensures.calm
    c.look_once.ensures.told

pub returns-clause-seeking : goal.returns-clause-seeking
returns-clause-seeking g c =
    let heap = c.args.heap.now in
    let was = bound heap c.args.seat.now in
    let answered = bound heap c.answer.new.seat in
    let last = bound heap c.look_once.new.seat in
    let number = was.seat.me.number in
    let own = was.seat.me.presence.status in
    seeking_then was answered last
    (calm_as (LookAndAnswer number own c.answer.result) Seeking was answered
    (answer_seeks number own c.answer.result) c.answer.ensures.calm)
    (look_seeks answered last c.look_once.result c.look_once.ensures.told)

pub returns-clause-pace : goal.returns-clause-pace
returns-clause-pace g c =
    let heap = c.args.heap.now in
    let was = bound heap c.args.seat.now in
    let answered = bound heap c.answer.new.seat in
    let last = bound heap c.look_once.new.seat in
    paces_then was answered last 65 0 1
    (paces_answer was answered c.answer.result c.answer.ensures.calm c.answer.ensures.status)
    (paces_look answered last c.look_once.result 0 (omega arith) c.look_once.ensures.told)

pub returns-clause-idle : goal.returns-clause-idle
returns-clause-idle g c =
    let heap = c.args.heap.now in
    let was = bound heap c.args.seat.now in
    let answered = bound heap c.answer.new.seat in
    let last = bound heap c.look_once.new.seat in
    tries_idle [] was answered last
    (tries_answer was answered c.answer.result c.answer.ensures.calm)
    (tries_look answered last c.look_once.result c.look_once.ensures.told)
