use Rattle.std.proofs.Common.{◌≡◌, ◌++◌, take}
use Rattle.result_text.specs.Output.{replies_of}
use Rattle.result_text.proofs.output.add_log.Given as goal

-- what stood there, and the replies of the entries so far
abbrev pub invariant-loop-entry : goal.invariant-loop-entry
invariant-loop-entry l =
    l.text.items ≡ l.initial.text.items ++ replies_of l.form (take l.entry-index l.log.entries)
