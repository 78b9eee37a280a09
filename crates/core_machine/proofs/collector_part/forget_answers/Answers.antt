use Rattle.std.proofs.Common.{Bool, false, ◌<◌, length, get_or, arith}
use Rattle.std.proofs.lemmas.List.{get_or_default}
use Rattle.std.proofs.lemmas.List.Edits.{map_over_more}
use Rattle.core_machine.proofs.collector_part.forget_answers.Goals as goal

pub loop-answer-preserved : goal.loop-answer-preserved
loop-answer-preserved c =
    let within : c.loop-answer.answer-index < length c.loop-answer.answered = omega arith in
    let old = get_or c.loop-answer.answered c.loop-answer.answer-index false in
    map_over_more
    (λ (answer : Bool). false) c.args.answered.now c.loop-answer.answered
    c.loop-answer.answer-index old
    c.loop-answer-test.true c.loop-answer.invariant
    (get_or_default c.loop-answer.answered c.loop-answer.answer-index false old within)
