use Rattle.std.proofs.Common.{ℕ, ap, arith}
use Rattle.mutator_events.specs.declared.values.Value.TheVariants as values
use Rattle.mutator_events.proofs.cells.hold_found.Goals as goal

pub returns-in-Cell-clause-value : goal.returns-in-Cell-clause-value
returns-in-Cell-clause-value c =
    rw c.in-Cell.is (ap (λ (n : ℕ). values.Held n) (omega (arith, c.args.cells.now.ok.0)))
