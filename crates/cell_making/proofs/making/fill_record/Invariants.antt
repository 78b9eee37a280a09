use Rattle.std.proofs.Common.{List, []}
use Rattle.cell_words.specs.declared.fields.Field.{Field}
use Rattle.mutator_seat.specs.Bound.{held_cells}
use Rattle.mutator_seat.specs.Searches.{Searches}
use Rattle.promotion.specs.Copying.{AreFilled, Opened}
use Rattle.cell_making.specs.Makes.{value_at}
use Rattle.cell_making.proofs.making.fill_record.Given as goal

abbrev pub invariant-loop-i : goal.invariant-loop-i
invariant-loop-i g l =
    (fields : List Field) × (Opened l.fn.m l.place fields l.m
    × AreFilled (held_cells l.fn.m) (value_at l.fields) l.i fields
    × Searches 1000 [] l.fn.hints l.hints l.fn.m l.m)
