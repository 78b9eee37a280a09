use Rattle.local_records.proofs.Keeping.{local_denotes, local_later}
use Rattle.local_records.proofs.theorems.what_stays_below_keeps_local.Goals as goal

pub returns-clause-local : goal.returns-clause-local
returns-clause-local c l known later so still within =
    local_later known l.named l.records l.copied l.places l.roots so later still within

pub returns-clause-terms : goal.returns-clause-terms
returns-clause-terms c l known later so still =
    local_denotes known l.named l.records l.copied l.places l.roots so later still
