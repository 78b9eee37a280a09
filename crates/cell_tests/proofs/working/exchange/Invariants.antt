-- the pass counts a write that was made
use Rattle.cell_tests.specs.Counting.{adding}
use Rattle.mutator_events.specs.Values.{field_at}
use Rattle.std.specs.Prelude.{[]}
use Rattle.cell_tests.proofs.working.exchange.Given as goal

abbrev pub ghosts-write : goal.ghosts-write
ghosts-write a = record { next = adding (field_at [] a.old) }
