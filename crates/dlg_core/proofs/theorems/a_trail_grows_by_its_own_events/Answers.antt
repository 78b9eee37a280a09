use Rattle.core_machine.proofs.Trails.{trail_mine, trail_else}
use Rattle.dlg_core.proofs.theorems.a_trail_grows_by_its_own_events.Goals as goal

pub returns : goal.returns
returns c = λ who taken t. (trail_mine who taken t, trail_else who taken t)
