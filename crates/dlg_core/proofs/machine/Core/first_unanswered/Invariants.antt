use Rattle.std.proofs.Common.{◌≡◌, drop}
use Rattle.dlg_core.specs.Plain.{least_unanswered, first_unanswered}
use Rattle.dlg_core.proofs.machine.Core.first_unanswered.Given as goal

abbrev pub invariant-loop-m : goal.invariant-loop-m
invariant-loop-m l = least_unanswered l.m (drop l.m l.self.collector.answered)
    ≡ first_unanswered l.self.collector
