use Rattle.std.proofs.Common.{◌≡◌, None, subst, sym}
use Rattle.core_replay.specs.Standing.{Standing}
use Rattle.core_replay.proofs.Turning.{turn_without}
use Rattle.core_replay.proofs.replaying.Replaying.turn.Goals as goal
use Rattle.dlg_core.specs.Plain.{next_plain_of}

pub returns-in-None-clause-turn : goal.returns-in-None-clause-turn
returns-in-None-clause-turn c =
    turn_without c.args.self.now
    (subst (λ (p : Standing). next_plain_of p.core ≡ None) c.self.view_is
    (sym c.in-None.ensures.event))
