use Rattle.std.proofs.Common.{◌≡◌, ◌≤◌, take}
use Rattle.std.specs.Prelude.{count_by}
use Rattle.doc_model.specs.Answers.{is_full}
use Rattle.result_text.proofs.summary.full_in.Given as goal

-- how many of the entries so far
abbrev pub invariant-loop-entry : goal.invariant-loop-entry
invariant-loop-entry l =
    record {
      count : l.count ≡ count_by (λ entry. is_full entry.reply) (take l.entry-index l.merged);
      few : l.count ≤ l.entry-index;
    }
