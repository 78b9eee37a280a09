use Rattle.heap_c.proofs.Naming.{of_no_place}
use Rattle.heap_c.proofs.records.given_place.Goals as goal

pub returns-in_default : goal.returns-in_default
returns-in_default c = record {
  means = λ held l f. of_no_place c.args.turns c.args.sorts.now l held c.args.n f
      c.in_default.ensures.names;
}
