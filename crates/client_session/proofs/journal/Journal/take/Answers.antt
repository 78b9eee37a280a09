use Rattle.std.proofs.Common.{arith, refl, sym}
use Rattle.client_session.proofs.Drafts.{drafts_of, take_absent_ends, take_ends}
use Rattle.client_session.proofs.Rooms.{full_ends}
use Rattle.client_session.proofs.journal.Journal.take.Goals as goal
use Rattle.doc_model.specs.declared.command.Command.TheVariants as command

pub returns-in-Some-clause-ends : goal.returns-in-Some-clause-ends
returns-in-Some-clause-ends g c =
    let h = g.H.ClientHeap in
    let begins = c.in-Ok.ensures.begins in
    let there = c.node.ensures.rests in
    let set = c.set_draft.ensures in
    take_ends c.args.self.now c.args.path.now c.requires.may c.in-Ok.opened begins there
    ((h.shown c.node.new.self).tree c.in-Some.at) (sym c.in-Some.ensures.tree)
    (drafts_of set.pass set.draft set.lasts)
    (let x = begins.room in let y = there.room in let z = set.room in omega (arith, x, y, z))

pub returns-in-None-clause-ends : goal.returns-in-None-clause-ends
returns-in-None-clause-ends g c =
    let begins = c.in-Ok.ensures.begins in
    let there = c.node.ensures.rests in
    take_absent_ends c.args.self.now c.args.path.now c.requires.may c.in-Ok.opened begins
    there (sym c.in-None.ensures.tree)
    (let x = begins.room in let y = there.room in omega (arith, x, y))

pub returns-in-Err-clause-ends : goal.returns-in-Err-clause-ends
returns-in-Err-clause-ends g c =
    full_ends c.args.self.now (command.Take c.args.path.now) c.in-Err.shown c.requires.may refl
    c.in-Err.ensures.full
