-- The word of a number or of a cell is the word of the field that is answered.
use Rattle.std.proofs.Common.{refl, arith, ◌/◌}
use Rattle.cell_words.specs.declared.fields.Field.TheVariants.{Num, Cell}
use Rattle.cell_words.proofs.fields.unpack_field.Goals as goal

pub returns-in-1-clause-some : goal.returns-in-1-clause-some
returns-in-1-clause-some c = (λ _. (Num (c.args.word / 4), omega arith, omega arith), λ _. refl)

pub returns-in-2-clause-some : goal.returns-in-2-clause-some
returns-in-2-clause-some c = (λ _. (Cell (c.args.word / 4), omega arith, omega arith), λ _. refl)
