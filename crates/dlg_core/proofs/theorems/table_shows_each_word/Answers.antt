use Rattle.core_machine.proofs.Table.{word_below, word_read}
use Rattle.dlg_core.proofs.theorems.table_shows_each_word.Goals as goal

pub returns : goal.returns
returns c = λ s word range there. (word_below s range word there, word_read s range word there)
