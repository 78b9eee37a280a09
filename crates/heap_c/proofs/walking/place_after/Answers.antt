use Rattle.heap_c.proofs.walking.place_after.Goals as goal

pub returns-in_default : goal.returns-in_default
returns-in_default c = record {
  place = λ place is. absurd (c.in_default.ensures.names place is.1.0);
}
