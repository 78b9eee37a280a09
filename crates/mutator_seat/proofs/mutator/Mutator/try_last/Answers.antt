use Rattle.mutator_seat.proofs.mutator.Mutator.try_last.Goals as goal

pub returns-in-None-clause-tried : goal.returns-in-None-clause-tried
returns-in-None-clause-tried g c = c.in-None.ensures.none
