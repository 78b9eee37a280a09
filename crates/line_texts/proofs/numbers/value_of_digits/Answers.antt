-- One digit more keeps the value below 10 ^ 19, which fits 64 bits.
use Rattle.std.proofs.Common.{◌+◌, arith}
use Rattle.line_texts.proofs.Digits.{value_below, value_small, value_more}
use Rattle.line_texts.proofs.numbers.value_of_digits.Goals as goal

pub overflow_mul-number : goal.overflow_mul-number
overflow_mul-number c =
    let i = c.loop-byte.byte-index in
    let more = value_more c.args.word.now i c.requires.digits c.loop-byte-test.true in
    let small = value_small c.args.word.now (i + 1) c.requires.digits c.requires.short in
    omega arith

pub overflow_add-number : goal.overflow_add-number
overflow_add-number c =
    let i = c.loop-byte.byte-index in
    let more = value_more c.args.word.now i c.requires.digits c.loop-byte-test.true in
    let small = value_small c.args.word.now (i + 1) c.requires.digits c.requires.short in
    omega arith

pub loop-byte-preserved : goal.loop-byte-preserved
loop-byte-preserved c =
    let more =
    value_more c.args.word.now c.loop-byte.byte-index c.requires.digits c.loop-byte-test.true in
    omega arith

pub returns-clause-small : goal.returns-clause-small
returns-clause-small c =
    let below = value_below c.args.word.now c.loop-byte.byte-index c.requires.digits in
    rw c.loop-byte.invariant below
