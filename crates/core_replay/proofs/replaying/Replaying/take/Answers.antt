use Rattle.core_replay.proofs.Kept.{takes_replayed}
use Rattle.core_replay.proofs.replaying.Replaying.take.Goals as goal

pub invariant_of-self-2 : goal.invariant_of-self-2
invariant_of-self-2 c = takes_replayed c.apply.result _ c.apply.new.self c.args.event
    c.self.invariant c.apply.ensures.event
