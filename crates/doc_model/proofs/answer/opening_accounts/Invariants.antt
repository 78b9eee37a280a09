use Rattle.std.proofs.Common.{◌≡◌, replicate}
use Rattle.doc_model.specs.Answers.{opening_account}
use Rattle.doc_model.proofs.answer.opening_accounts.Given as goal

abbrev pub invariant-loop-i : goal.invariant-loop-i
invariant-loop-i l = l.accounts.items ≡ replicate l._i opening_account
