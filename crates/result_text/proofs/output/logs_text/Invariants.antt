use Rattle.std.proofs.Common.{◌≡◌, ◌++◌, drop}
use Rattle.result_text.specs.Output.{logs_text_of}
use Rattle.result_text.proofs.output.logs_text.Given as goal

-- the text of the logs so far, and of those that are left
abbrev pub invariant-loop-log : goal.invariant-loop-log
invariant-loop-log l =
    l.text.items ++ logs_text_of l.forms (drop l.log-index l.logs)
    ≡ logs_text_of l.fn.forms l.logs
