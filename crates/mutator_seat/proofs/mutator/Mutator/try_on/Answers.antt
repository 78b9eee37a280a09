use Rattle.std.proofs.Common.{ℕ, [], ◌∷◌, Option, Some, subst, sym}
use Rattle.mutator_seat.specs.Searches.{TriesFor}
use Rattle.mutator_seat.proofs.Searching.{take_found}
use Rattle.mutator_seat.proofs.Tries.{some_any}
use Rattle.mutator_seat.proofs.mutator.Mutator.try_on.Goals as goal

pub returns-in-Some-clause-found : goal.returns-in-Some-clause-found
returns-in-Some-clause-found g c =
    let was = c.args.self.now in
    let last = c.try_within.new.self in
    some_any c.try_within.result
    (subst (λ (hint : Option ℕ). TriesFor c.args.patience (hint ∷ []) was last)
    (sym c.in-Some.is)
    (take_found was last (Some c.in-Some.cell) c.args.patience c.try_within.ensures.tries))
