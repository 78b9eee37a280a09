use Rattle.std.specs.Prelude.{◌≡◌}
use Rattle.client_session.specs.Handles.{Still}
use Rattle.client_session.proofs.waiting.back_off.Given as goal
use Rattle.client_history.specs.State.{Rests}

-- the pieces so far left all as it was
abbrev pub invariant-loop-piece : goal.invariant-loop-piece
invariant-loop-piece g l =
    let h = g.H.ClientHeap in
    record {
      rests : Rests 0 (h.state l.fn.heap) (h.state l.heap);
      still : Still (h.shown l.fn.heap) (h.shown l.heap);
      lent : h.lent l.heap ≡ h.lent l.fn.heap;
    }
