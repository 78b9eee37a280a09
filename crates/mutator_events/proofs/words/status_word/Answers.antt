use Rattle.std.proofs.Common.{refl}
use Rattle.mutator_events.proofs.words.status_word.Goals as goal

pub returns-clause-word : goal.returns-clause-word
returns-clause-word g c = refl
