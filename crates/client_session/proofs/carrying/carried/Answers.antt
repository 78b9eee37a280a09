use Rattle.std.proofs.Common.{arith}
use Rattle.client_session.proofs.Editing.{edits_none, still_then}
use Rattle.client_session.proofs.Regrafts.{grafts_late, opens_later, roomy, source_late}
use Rattle.client_session.proofs.carrying.carried.Goals as goal
use Rattle.client_history.proofs.States.{none_then, rests_none}

pub source_agrees-requires-clause-root : goal.source_agrees-requires-clause-root
source_agrees-requires-clause-root g c =
    c.open-opened.ensures.still.nodes c.args.root c.requires.root

pub regraft-requires-clause-root : goal.regraft-requires-clause-root
regraft-requires-clause-root g c =
    c.source_agrees.ensures.still.nodes c.args.root
    (c.open-opened.ensures.still.nodes c.args.root c.requires.root)

pub regraft-requires-clause-made : goal.regraft-requires-clause-made
regraft-requires-clause-made g c =
    c.source_agrees.ensures.still.nodes c.args.made
    (c.open-opened.ensures.still.nodes c.args.made c.requires.made)

pub returns-in_ok-node-in-Ok-clause-carries : goal.returns-in_ok-node-in-Ok-clause-carries
returns-in_ok-node-in-Ok-clause-carries g c =
    let h = g.H.ClientHeap in
    let s = h.state c.args.heap.now in
    let opened = c.open-opened.ensures in
    let look = c.source_agrees.ensures in
    let graft = c.regraft.ensures in
    let enough = roomy s.room s.spare c.has_room.result c.has_room.ensures.room
    c.if-not-has_room.false in
    let before = still_then opened.still look.still in
    let behind = still_then look.still graft.still in
    record {
      enough = enough.0;
      spare = enough.1;
      middle = h.state c.open-opened.new.heap;
      opens = opens_later opened.opens behind;
      none = none_then (rests_none look.rests) (edits_none graft.edits);
      source = source_late c.args.along.source
          (opened.still.trees c.args.root c.requires.root)
          (behind.trees c.open-opened.result.root opened.opens.holds.node)
          (look.agree c.if-not-source_agrees.false);
      grafts = rw c.in-Ok.ensures at
          (grafts_late before c.requires.root c.requires.made c.in_ok-node-in-Ok.ensures.grafts);
      room = let x = opened.opens.rests.room in
          let y = look.rests.room in
          let z = graft.edits.room in
          omega (arith, enough.0, x, y, z);
    }
