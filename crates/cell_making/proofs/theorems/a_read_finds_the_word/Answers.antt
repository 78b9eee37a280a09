use Rattle.cell_making.proofs.OneRead.{found_word}
use Rattle.cell_making.proofs.theorems.a_read_finds_the_word.Goals as goal

pub returns : goal.returns
returns g c = found_word
