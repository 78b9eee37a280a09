use Rattle.record_copying.proofs.Standing.{copies_made}
use Rattle.record_copying.proofs.theorems.a_new_record_keeps_copies.Goals as goal

pub returns : goal.returns
returns c = λ known records fields copied places are.
    copies_made known records fields copied places are
