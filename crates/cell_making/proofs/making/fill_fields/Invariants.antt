use Rattle.std.proofs.Common.{[]}
use Rattle.mutator_seat.specs.Searches.{Tries}
use Rattle.cell_making.specs.Makes.{Filled}
use Rattle.cell_making.proofs.making.fill_fields.Given as goal

abbrev pub invariant-loop-i : goal.invariant-loop-i
invariant-loop-i g l = Filled l.fn.m l.place l.fields l.i l.m × Tries [] l.fn.m l.m
