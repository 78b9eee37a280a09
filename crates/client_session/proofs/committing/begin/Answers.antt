use Rattle.client_session.proofs.Rooms.{begins_of, full_of, same_none}
use Rattle.client_session.proofs.committing.begin.Goals as goal

pub returns-in-Ok-clause-begins : goal.returns-in-Ok-clause-begins
returns-in-Ok-clause-begins g c =
    let made = c.in-Ok.ensures in
    begins_of (same_none made.pass made.draft made.small made.lasts) c.open.ensures.opens made.room
    made.spare

-- there was room, so of a full heap nothing is said
pub returns-in-Ok-clause-full : goal.returns-in-Ok-clause-full
returns-in-Ok-clause-full g c = tt

pub returns-in-Err-clause-full : goal.returns-in-Err-clause-full
returns-in-Err-clause-full g c =
    let h = g.H.ClientHeap in
    let made = c.in-Err.ensures in
    let latest = c.current.ensures in
    full_of (h.state c.args.heap.now) (h.state c.make_room.new.self) (h.state c.current.new.self)
    c.current.result.number latest.shows.0
    (same_none made.pass made.draft made.small made.lasts) made.full c.requires.room made.kept
    latest.shows.1 latest.pass latest.seen latest.rests
