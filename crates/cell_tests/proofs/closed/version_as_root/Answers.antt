use Rattle.cell_words.specs.declared.fields.Field.TheVariants as field
use Rattle.cell_tests.proofs.Boxes.{two_boxes}
use Rattle.cell_tests.proofs.closed.version_as_root.Goals as goal

pub closed-requires-clause-boxes : goal.closed-requires-clause-boxes
closed-requires-clause-boxes c =
    two_boxes (field.Cell 1) field.Null (field.Num 0) (field.Cell 1)
