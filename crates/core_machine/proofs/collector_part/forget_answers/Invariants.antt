use Rattle.std.proofs.Common.{◌≡◌, ◌++◌, Bool, false, map, take, drop}
use Rattle.core_machine.proofs.collector_part.forget_answers.Given as goal

abbrev pub invariant-loop-answer : goal.invariant-loop-answer
invariant-loop-answer l =
    l.answered ≡ map (λ (answer : Bool). false) (take l.answer-index l.initial.answered)
    ++ drop l.answer-index l.initial.answered
