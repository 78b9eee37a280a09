use Rattle.dlg_core.proofs.Safety.{consistent_safe}
use Rattle.heap_rule.proofs.Showing.{none_free}
use Rattle.heap_rule.proofs.Stepping.{core_consistent}
use Rattle.heap_rule.proofs.theorems.no_reachable_cell_is_free.Goals as goal

pub returns-clause-safe : goal.returns-clause-safe
returns-clause-safe g c = λ h s k. consistent_safe k.ledger.core
    (core_consistent g.P.Keeping.holds g.P.Keeping.fixed h k.ledger k.stands)

pub returns-clause-words : goal.returns-clause-words
returns-clause-words g c = λ h s k. none_free g.P.Keeping.opening g.P.Keeping.holds g.P.Keeping.fixed h k.ledger k.stands s.words k.words_are
