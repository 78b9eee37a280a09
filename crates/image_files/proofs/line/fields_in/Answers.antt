use Rattle.image_files.proofs.Words.{left_over}
use Rattle.image_files.proofs.line.fields_in.Goals as goal

pub returns-then-not-is_empty : goal.returns-then-not-is_empty
returns-then-not-is_empty c =
    left_over c.args.size c.args.rest.now c.next_word.result.1.now c.next_word-2.result.1.now
    c.next_word-3.result.1.now c.next_word-4.result.1.now c.next_word-5.result.1.now
    c.next_word-6.result.1.now c.is_empty.result (record {
      one = c.next_word.ensures.rest;
      two = c.next_word-2.ensures.rest;
      three = c.next_word-3.ensures.rest;
      four = c.next_word-4.ensures.rest;
      five = c.next_word-5.ensures.rest;
      six = c.next_word-6.ensures.rest;
    }) c.is_empty.ensures c.if-not-is_empty.true
