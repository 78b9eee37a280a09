-- the pass counts a write that was made
use Rattle.mutator_events.specs.Values.{field_at}
use Rattle.example_log.specs.Logging.{appending}
use Rattle.example_log.proofs.appending.exchange.Given as goal

abbrev pub ghosts-update : goal.ghosts-update
ghosts-update a = record { next = appending (field_at a.self.now.seat.me.own.held a.old) }
