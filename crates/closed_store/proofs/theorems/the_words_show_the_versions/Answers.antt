use Rattle.closed_store.proofs.Chaining.{versions_shown}
use Rattle.closed_store.proofs.theorems.the_words_show_the_versions.Goals as goal

pub returns : goal.returns
returns c = versions_shown
