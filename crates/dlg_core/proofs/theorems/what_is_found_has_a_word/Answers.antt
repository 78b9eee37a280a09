use Rattle.core_machine.proofs.HasWords.{found_valid}
use Rattle.dlg_core.proofs.theorems.what_is_found_has_a_word.Goals as goal

pub returns : goal.returns
returns c = λ s e range words. found_valid s e range words
