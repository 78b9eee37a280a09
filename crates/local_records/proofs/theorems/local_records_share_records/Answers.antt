use Rattle.local_records.proofs.Keeping.{local_copies, local_shares}
use Rattle.local_records.proofs.theorems.local_records_share_records.Goals as goal

pub returns-clause-shares : goal.returns-clause-shares
returns-clause-shares c l known so =
    local_shares known l.named l.records l.copied l.places l.roots so

pub returns-clause-copies : goal.returns-clause-copies
returns-clause-copies c l known so =
    local_copies known l.named l.records l.copied l.places l.roots so
