use Rattle.client_session.proofs.Editing.{still_then}
use Rattle.client_session.proofs.Opening.{opens_of}
use Rattle.client_session.proofs.reading.open.Goals as goal

pub returns-clause-opens : goal.returns-clause-opens
returns-clause-opens g c =
    let h = g.H.ClientHeap in
    let s = h.state c.args.heap.now in
    let t = h.state c.current-version.new.self in
    let u = h.state c.tree-root.new.self in
    let one = c.current-version.ensures in
    let two = c.tree-root.ensures in
    opens_of s t u (h.shown c.current-version.new.self) (h.shown c.tree-root.new.self)
    c.current-version.result c.tree-root.result one.shows.0 one.shows.1 one.pass one.seen
    one.version one.rests two.pass two.node two.tree two.rests two.still

pub returns-clause-still : goal.returns-clause-still
returns-clause-still g c =
    still_then c.current-version.ensures.still c.tree-root.ensures.still
