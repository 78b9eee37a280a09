use Rattle.dlg_core.proofs.Computes.{reach-sound, reach-complete}
use Rattle.dlg_core.proofs.theorems.reach_is_reachable.Goals as goal

pub returns : goal.returns
returns c = λ s n.
    (reach-sound s.rows s.presences s.owns n, reach-complete s.rows s.presences s.owns n)
