use Rattle.std.proofs.Common.{set}
use Rattle.core_machine.proofs.Rooms.{runs_roomed, last_roomed}
use Rattle.dlg_core.proofs.theorems.a_run_is_blind_to_an_unused_room.Goals as goal

pub returns : goal.returns
returns c = λ s i room taken none runs.
    (runs_roomed s i room taken none runs, last_roomed s (set s.rooms i room) taken)
