-- A word with fewer digits than may stand is smaller still.
use Rattle.std.proofs.Common.{arith, length}
use Rattle.line_texts.proofs.Digits.{power_grows}
use Rattle.line_texts.proofs.numbers.read_digits.Goals as goal

pub returns-clause-small : goal.returns-clause-small
returns-clause-small c =
    let small = c.value_of_digits.ensures.small in
    let most = power_grows (length c.args.word.now) c.args.most (omega arith) in
    omega arith
