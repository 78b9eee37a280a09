use Rattle.std.proofs.Common.{refl}
use Rattle.cell_heap.proofs.words.field_word.Goals as goal

pub returns : goal.returns
returns c = record { index = refl }
