use Rattle.std.proofs.Common.{◌+◌, ◌≤◌}
use Rattle.core_replay.specs.Turns.{Outcome, PlainLeads}
use Rattle.dlg_core.specs.Left.{left}
use Rattle.core_replay.proofs.replaying.Replaying.plain.Given as goal

abbrev pub invariant-loop : goal.invariant-loop
invariant-loop l = record {
  leads : (outcome : Outcome) → PlainLeads outcome l.self → PlainLeads outcome l.initial.self;
  few : l.self.taken + left l.self.core ≤ l.initial.self.taken + left l.initial.self.core;
}

abbrev pub decreases-loop : goal.decreases-loop
decreases-loop l = left l.self.core
