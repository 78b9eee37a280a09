use Rattle.std.proofs.Common.{arith, ◌∙◌}
use Rattle.client_session.proofs.Editing.{still_then}
use Rattle.client_session.proofs.Regrafts.{stopped_late, tries_late, worn_late}
use Rattle.client_session.proofs.Rooms.{same_none}
use Rattle.client_session.proofs.journal.Journal.try_commit.Goals as goal
use Rattle.client_history.proofs.States.{none_then, rests_none}

pub returns-then-shown-from-clause-tries : goal.returns-then-shown-from-clause-tries
returns-then-shown-from-clause-tries g c =
    let h = g.H.ClientHeap in
    let read = c.current-latest.ensures in
    λ command s begun needs.
    worn_late c.args.self.now command c.args.version.number s
    ((h.shown c.args.heap.now).tree c.args.at)
    begun (rests_none read.rests)
    (omega (arith, c.if-shown-from.true, c.from.ensures))
    (let room = read.rests.room in omega (arith, room, c.requires.room))

pub returns-in-Ok-clause-tries : goal.returns-in-Ok-clause-tries
returns-in-Ok-clause-tries g c =
    let h = g.H.ClientHeap in
    let read = c.current-latest.ensures in
    let made = c.in-Ok.ensures in
    tries_late c.args.self.now c.args.version.number (h.state c.commit_shared-tried.new.heap)
    (h.shown c.commit_shared-tried.new.heap) c.commit_shared-tried.result
    (none_then (rests_none read.rests) (same_none made.pass made.draft
    (let is = made.base in omega (arith, is)) made.lasts))
    (still_then read.still made.still) (made.tree ∙ read.still.trees c.args.at c.requires.node)
    c.commit_shared-tried.ensures.tries

pub returns-in-Err-clause-tries : goal.returns-in-Err-clause-tries
returns-in-Err-clause-tries g c =
    let h = g.H.ClientHeap in
    let read = c.current-latest.ensures in
    let not = c.in-Err.ensures in
    λ command s begun needs.
    stopped_late c.args.self.now command c.args.version.number s
    ((h.shown c.args.heap.now).tree c.args.at) begun (rests_none read.rests)
    (same_none not.pass not.draft (let is = not.base in omega (arith, is)) not.lasts)
    (let room = read.rests.room in let more = not.room in
    omega (arith, room, more, c.requires.room))
    needs not.full
