use Rattle.std.proofs.Common.{◌≡◌, ◌+◌, ◌++◌, drop}
use Rattle.result_text.specs.Mailed.{senders_text_from}
use Rattle.result_text.proofs.mailed.senders_text.Given as goal

-- the text of the senders so far, and of those that are left
abbrev pub invariant-loop-answers : goal.invariant-loop-answers
invariant-loop-answers l =
    (l.number ≡ l.answers-index)
    × (l.text.items ++ senders_text_from (l.number + 1) (drop l.answers-index l.sent)
    ≡ senders_text_from 1 l.sent)
