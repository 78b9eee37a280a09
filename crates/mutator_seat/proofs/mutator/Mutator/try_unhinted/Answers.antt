use Rattle.std.proofs.Common.{sym, arith}
use Rattle.mutator_seat.proofs.Searching.{walk_found}
use Rattle.mutator_seat.proofs.Tries.{some_any}
use Rattle.mutator_seat.proofs.Pacing.{paces_none}
use Rattle.mutator_seat.proofs.mutator.Mutator.try_unhinted.Goals as goal

pub returns-else-patience-eq1-clause-pace : goal.returns-else-patience-eq1-clause-pace
returns-else-patience-eq1-clause-pace g c = paces_none c.args.self.now 1 65 (omega arith)

pub returns-then-patience-eq1-clause-found : goal.returns-then-patience-eq1-clause-found
returns-then-patience-eq1-clause-found g c =
    some_any c.try_all.result
    (walk_found c.args.self.now c.try_all.new.self c.args.patience (sym c.if-patience-eq1.true)
    c.try_all.ensures.walk)
