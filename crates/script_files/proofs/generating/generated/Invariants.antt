use Rattle.std.proofs.Common.{◌≡◌, ◌-◌, ◌++◌}
use Rattle.script_files.specs.Generated.{generated_of, lines_from}
use Rattle.script_files.proofs.generating.generated.Given as goal

-- the lines so far, and those that are left
abbrev pub invariant-loop-done : goal.invariant-loop-done
invariant-loop-done l =
    l.text.items ++ lines_from l.client l.draws.state (l.commands - l._done)
    ≡ generated_of l.start l.client l.commands
