use Rattle.std.proofs.Common.{◌∙◌, refl}
use Rattle.client_session.proofs.Editing.{still_same, still_then}
use Rattle.client_session.proofs.waiting.back_off.Goals as goal
use Rattle.client_history.proofs.States.{rests_still, rests_then}

pub loop-piece-init : goal.loop-piece-init
loop-piece-init g c =
    let h = g.H.ClientHeap in
    record {
      rests = rests_still (h.state c.args.heap.now);
      still = still_same (h.shown c.args.heap.now);
      lent = refl;
    }

pub loop-piece-preserved : goal.loop-piece-preserved
loop-piece-preserved g c =
    let was = c.loop-piece.invariant in
    let point = c.safe_point.ensures in
    record {
      rests = rests_then was.rests point.rests;
      still = still_then was.still point.still;
      lent = point.lent ∙ was.lent;
    }
