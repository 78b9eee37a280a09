use Rattle.std.proofs.Common.{◌≡◌, ◌++◌, take}
use Rattle.result_text.specs.Mailed.{answers_text_of}
use Rattle.result_text.proofs.mailed.add_sender.Given as goal

-- what stood there, and the lines of the answers so far
abbrev pub invariant-loop-answer : goal.invariant-loop-answer
invariant-loop-answer l =
    l.text.items ≡ l.initial.text.items ++ answers_text_of (take l.answer-index l.answers)
