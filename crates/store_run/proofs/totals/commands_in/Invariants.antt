use Rattle.std.proofs.Common.{◌≡◌, ◌+◌, drop, length}
use Rattle.doc_model.specs.Merge.{all_entries}
use Rattle.store_run.proofs.totals.commands_in.Given as goal

abbrev pub invariant-loop-log : goal.invariant-loop-log
invariant-loop-log l = l.count + length (all_entries (drop l.log-index l.logs))
    ≡ length (all_entries l.logs)
