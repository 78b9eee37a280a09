use Rattle.std.proofs.Common.{◌≡◌, ◌++◌, take}
use Rattle.result_text.specs.Output.{entries_text_of}
use Rattle.result_text.proofs.output.add_entries.Given as goal

-- what stood there, and the lines of the entries so far
abbrev pub invariant-loop-entry : goal.invariant-loop-entry
invariant-loop-entry l =
    l.text.items ≡ l.initial.text.items ++ entries_text_of (take l.entry-index l.merged)
