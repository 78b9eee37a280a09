-- the pass counts a write that was made
use Rattle.mutator_events.specs.Values.{field_at}
use Rattle.example_counter.specs.Counting.{adding}
use Rattle.example_counter.proofs.adding.exchange.Given as goal

abbrev pub ghosts-update : goal.ghosts-update
ghosts-update a = record { next = adding (field_at a.self.now.seat.me.own.held a.old) }
