-- What follows the space is cut as a line is.
use Rattle.std.proofs.Common.{◌∙◌, ap}
use Rattle.line_texts.specs.Cut.{rest_of, word_of}
use Rattle.line_texts.proofs.cut.next_word.Goals as goal

pub returns-clause-word : goal.returns-clause-word
returns-clause-word c = c.first_word.ensures.word ∙ ap word_of c.after_space.ensures

pub returns-clause-rest : goal.returns-clause-rest
returns-clause-rest c = c.first_word.ensures.rest ∙ ap rest_of c.after_space.ensures
