use Rattle.std.proofs.Common.{◌≡◌, take}
use Rattle.std.specs.List.{count_by}
use Rattle.doc_model.specs.Answers.{is_ok}
use Rattle.doc_model.specs.declared.command.Entry.{Entry}
use Rattle.store_run.proofs.totals.new_versions.Given as goal

abbrev pub invariant-loop-entry : goal.invariant-loop-entry
invariant-loop-entry l =
    l.count ≡ count_by (λ (e : Entry). is_ok e.reply) (take l.entry-index l.entries)
