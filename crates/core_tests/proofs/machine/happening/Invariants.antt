use Rattle.std.proofs.Common.{◌≡◌, ◌≤◌}
use Rattle.core_machine.specs.InRange.{InRange}
use Rattle.core_tests.proofs.machine.happening.Given as goal

abbrev pub invariant-loop-event : goal.invariant-loop-event
invariant-loop-event l =
    InRange l.machine × (l.machine.cells ≡ l.initial.machine.cells) × (l.count ≤ l.event-index)
