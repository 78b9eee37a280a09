use Rattle.std.proofs.Common.{◌≡◌, ◌<◌, ◌^◌, ◌∙◌, sym, arith, Some}
use Rattle.line_texts.proofs.Decimals.{decimal-decimal_of, number_found}
use Rattle.line_texts.proofs.cell_numbers.read_number.Goals as goal

-- a word of no number is not the text of one
pub returns-in_err-number-clause-read : goal.returns-in_err-number-clause-read
returns-in_err-number-clause-read c = λ n fits text.
    let small : n < 10 ^ 19 = omega (arith, c.requires) in
    c.from_residual.ensures ∙ (c.in_err-number.ensures.number
    ∙ number_found c.args.word.now n small text)

pub returns-then-number-most-clause-read : goal.returns-then-number-most-clause-read
returns-then-number-most-clause-read c = λ n fits text.
    let small : n < 10 ^ 19 = omega (arith, c.requires) in
    let is : Some c.in_ok-number.number ≡ Some n =
    c.in_ok-number.ensures.number ∙ number_found c.args.word.now n small text in
    let same : c.in_ok-number.number ≡ n = cc in
    absurd (omega (arith, c.if-number-most.true, fits, same))

pub returns-clause-text : goal.returns-clause-text
returns-clause-text c =
    let small : c.in_ok-number.number < 10 ^ 19 =
    omega (arith, c.requires, c.if-number-most.false) in
    decimal-decimal_of c.args.word.now c.in_ok-number.number small
    (sym c.in_ok-number.ensures.number)

pub returns-clause-read : goal.returns-clause-read
returns-clause-read c = λ n fits text.
    let small : n < 10 ^ 19 = omega (arith, c.requires) in
    c.in_ok-number.ensures.number ∙ number_found c.args.word.now n small text
