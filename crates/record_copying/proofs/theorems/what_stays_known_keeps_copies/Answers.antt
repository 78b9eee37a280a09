use Rattle.record_copying.proofs.Standing.{all_share_still, copies_stay, terms_stay}
use Rattle.record_copying.proofs.theorems.what_stays_known_keeps_copies.Goals as goal

pub returns-clause-shares : goal.returns-clause-shares
returns-clause-shares c known later records shares still =
    all_share_still known later records shares still

pub returns-clause-terms : goal.returns-clause-terms
returns-clause-terms c known later records shares still =
    terms_stay known later records shares still

pub returns-clause-copies : goal.returns-clause-copies
returns-clause-copies c known later records copied places shares still are =
    copies_stay known later records copied places shares still are
