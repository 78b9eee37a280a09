use Rattle.std.proofs.Common.{refl, sym}
use Rattle.std.proofs.lemmas.Bool.{true≢false}
use Rattle.client_session.specs.Turns.{bounds}
use Rattle.client_session.specs.declared.journal.Journal.{Journal}
use Rattle.client_session.proofs.Entering.{entered_step, lost_step, may_of, same_step}
use Rattle.client_session.proofs.journal.Journal.answer.Goals as goal
use Rattle.client_history.proofs.States.{reads_still, small_still}

pub turns-requires-clause-may : goal.turns-requires-clause-may
turns-requires-clause-may g c =
    let j = c.args.self.now in
    let now : Journal = record { limits = j.limits; last = j.last; log = c.reserve.new.self } in
    may_of j now (g.H.ClientHeap.state c.args.heap.now) c.requires.step c.requires.few refl refl

pub returns-in_err-given-clause-step : goal.returns-in_err-given-clause-step
returns-in_err-given-clause-step g c =
    let j = c.args.self.now in
    lost_step (bounds j.limits) j.last j.log c.reserve.new.self c.requires.step
    c.reserve.ensures.client c.reserve.ensures.entries c.in_err-given.ensures.lost

pub returns-clause-step : goal.returns-clause-step
returns-clause-step g c =
    let j = c.args.self.now in
    let s = g.H.ClientHeap.state c.args.heap.now in
    let now : Journal = record { limits = j.limits; last = j.last; log = c.reserve.new.self } in
    let answered = c.in_ok-given.ensures.answered in
    let entered = c.enter-reply.ensures in
    entered_step now c.enter-reply.new.self c.args.command.now c.in_ok-copied.copied
    c.in_ok-given.given.reply c.in_ok-given.given.kept c.in_ok-given.given.place
    (same_step (bounds j.limits) s j.last j.log c.reserve.new.self c.reserve.ensures.client
    c.reserve.ensures.entries c.requires.step) answered.turned c.in_ok-copied.ensures
    answered.kept entered.entries entered.limits entered.client entered.last

pub returns-in_err-reserve-clause-step : goal.returns-in_err-reserve-clause-step
returns-in_err-reserve-clause-step g c =
    let j = c.args.self.now in
    same_step (bounds j.limits) (g.H.ClientHeap.state c.args.heap.now) j.last j.log
    c.reserve.new.self c.reserve.ensures.client c.reserve.ensures.entries c.requires.step

pub returns-in_err-reserve-clause-small : goal.returns-in_err-reserve-clause-small
returns-in_err-reserve-clause-small g c = λ is. small_still (g.H.ClientHeap.state c.args.heap.now)

pub returns-in_err-reserve-clause-reads : goal.returns-in_err-reserve-clause-reads
returns-in_err-reserve-clause-reads g c = λ is. reads_still (g.H.ClientHeap.state c.args.heap.now)

pub returns-in_err-copied-clause-step : goal.returns-in_err-copied-clause-step
returns-in_err-copied-clause-step g c =
    let j = c.args.self.now in
    same_step (bounds j.limits) (g.H.ClientHeap.state c.args.heap.now) j.last j.log
    c.reserve.new.self c.reserve.ensures.client c.reserve.ensures.entries c.requires.step

pub returns-in_err-copied-clause-small : goal.returns-in_err-copied-clause-small
returns-in_err-copied-clause-small g c = λ is. small_still (g.H.ClientHeap.state c.args.heap.now)

pub returns-in_err-copied-clause-reads : goal.returns-in_err-copied-clause-reads
returns-in_err-copied-clause-reads g c = λ is. reads_still (g.H.ClientHeap.state c.args.heap.now)

pub returns-in_err-given-clause-untouched : goal.returns-in_err-given-clause-untouched
returns-in_err-given-clause-untouched g c = λ plain.
    absurd (true≢false (sym (c.in_err-given.ensures.spared plain)))
