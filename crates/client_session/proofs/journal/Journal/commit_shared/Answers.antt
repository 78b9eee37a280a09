use Rattle.std.proofs.Common.{arith, ℕ, ◌∙◌, subst, sym}
use Rattle.client_session.specs.Turns.{Answered}
use Rattle.client_session.proofs.Commits.{made_ends, stopped_ends, unmade_none}
use Rattle.client_session.proofs.journal.Journal.commit_shared.Goals as goal
use Rattle.doc_model.specs.declared.command.Reply.TheVariants as reply

pub returns-in-Ok-clause-tries : goal.returns-in-Ok-clause-tries
returns-in-Ok-clause-tries g c =
    let h = g.H.ClientHeap in
    let j = c.args.self.now in
    let start = h.shown c.args.heap.now in
    let x = h.state c.trim.new.self in
    let tree = start.tree c.args.at in
    let v = c.args.version.number in
    let made = c.in-Ok.ensures in
    let latest = c.current-latest.ensures in
    λ command s begun needs.
    subst
    (λ (n : ℕ). Answered j command s x
    (record { reply = reply.Committed n; kept = reply.Committed n; place = n }))
    (sym made.number)
    (made_ends j command v tree begun (start.root c.args.version)
    c.current-latest.result.number c.requires.below made.lasts made.pass
    made.rose made.draft made.base latest.seen latest.rests c.trim.ensures.rests
    (let due = c.trim.ensures.due in omega (arith, due, c.from-in-Ok.ensures))
    (let one = made.room in
    let two = latest.rests.room in
    let three = c.trim.ensures.rests.room in
    omega (arith, one, two, three, c.requires.room)))

pub returns-in-Err-Full-clause-tries : goal.returns-in-Err-Full-clause-tries
returns-in-Err-Full-clause-tries g c =
    let tree = (g.H.ClientHeap.shown c.args.heap.now).tree c.args.at in
    let v = c.args.version.number in
    let not = c.in-Err-Full.ensures in
    λ command s begun needs.
    stopped_ends c.args.self.now command v tree begun
    (unmade_none not.lasts not.same not.draft not.base)
    (let room = not.room in omega (arith, room, c.requires.room)) needs
    (not.full cc)

pub trim-requires-clause-keep : goal.trim-requires-clause-keep
trim-requires-clause-keep g c =
    c.from-in-Ok.ensures
    ∙ sym (c.current-latest.ensures.rests.lasts.passes.keep
    ∙ c.in-Ok.ensures.lasts.passes.keep
    ∙ c.requires.may.keep)
