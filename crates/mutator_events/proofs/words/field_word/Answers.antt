use Rattle.std.proofs.Common.{arith}
use Rattle.mutator_events.proofs.words.field_word.Goals as goal

pub returns-clause-word : goal.returns-clause-word
returns-clause-word g c = omega (arith, c.mutators.ensures.mutators)
