use Rattle.record_copying.proofs.Standing.{copies_none}
use Rattle.record_copying.proofs.theorems.no_copies_are_copies.Goals as goal

pub returns : goal.returns
returns c = λ known records copied places none. copies_none known records copied places none
