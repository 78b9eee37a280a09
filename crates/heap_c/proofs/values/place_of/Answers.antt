use Rattle.heap_c.proofs.values.place_of.Goals as goal

pub returns-in_default-clause-place : goal.returns-in_default-clause-place
returns-in_default-clause-place c = λ place at. absurd (c.in_default.ensures.names place at)
