use Rattle.cell_words.specs.declared.fields.Field.TheVariants as field
use Rattle.cell_tests.proofs.Boxes.{one_box}
use Rattle.cell_tests.proofs.closed.named_anchor.Goals as goal

pub closed-requires-clause-boxes : goal.closed-requires-clause-boxes
closed-requires-clause-boxes c = one_box (field.Cell 0) field.Null
