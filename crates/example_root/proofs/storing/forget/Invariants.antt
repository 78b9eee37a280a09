-- the pass then says that nothing is kept, if the record was taken out
use Rattle.mutator_events.specs.Values.{field_at}
use Rattle.example_root.specs.Rule.{number_of, putting}
use Rattle.example_root.proofs.storing.forget.Given as goal

abbrev pub ghosts-update : goal.ghosts-update
ghosts-update a = record {
  next = putting (field_at a.self.now.seat.me.own.held a.old) (number_of a.self.now.seat.me a.new);
}
