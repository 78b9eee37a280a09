use Rattle.std.specs.Prelude.{◌≡◌, true}
use Rattle.client_session.proofs.journal.Journal.turns.Given as goal
use Rattle.client_history.specs.Demands.{is_reading}
use Rattle.client_history.specs.State.{OnlyReads}
use Rattle.client_history.specs.Turns.{Lost}

abbrev pub invariant-loop : goal.invariant-loop
invariant-loop g l =
    let h = g.H.ClientHeap in
    Lost (h.state l.fn.heap) (h.state l.heap)
    × ((h.lent l.heap ≡ h.lent l.fn.heap)
    × (is_reading l.command ≡ true → OnlyReads (h.state l.fn.heap) (h.state l.heap)))
