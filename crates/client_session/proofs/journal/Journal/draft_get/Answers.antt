use Rattle.client_session.proofs.Readings.{draft_ends}
use Rattle.client_session.proofs.journal.Journal.draft_get.Goals as goal

pub returns-clause-ends : goal.returns-clause-ends
returns-clause-ends g c =
    let h = g.H.ClientHeap in
    let read = c.in_ok-given.ensures in
    draft_ends c.args.self.now c.args.path.now
    ((h.shown c.args.heap.now).tree c.draft-draft.result) c.in_ok-given.given c.requires.may
    c.draft-draft.ensures.tree read.told read.kept read.place read.plain read.rests
    c.requires.room
