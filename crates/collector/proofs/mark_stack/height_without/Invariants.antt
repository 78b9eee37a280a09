use Rattle.std.proofs.Common.{◌≡◌, ◌≤◌}
use Rattle.collector.specs.Stack.{top_first, without}
use Rattle.collector.proofs.mark_stack.height_without.Given as goal

abbrev pub invariant-loop-rest : goal.invariant-loop-rest
invariant-loop-rest l =
    (l.rest ≤ l.height)
    × (without l.cell (top_first l.items l.rest) ≡ without l.cell (top_first l.items l.height))

abbrev pub decreases-loop-rest : goal.decreases-loop-rest
decreases-loop-rest l = l.rest
