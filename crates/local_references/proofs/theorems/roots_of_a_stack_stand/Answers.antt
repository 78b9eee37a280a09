use Rattle.local_references.proofs.Standing.{stand_cut, stand_made, stand_popped, stand_pushed, stand_set}
use Rattle.local_references.proofs.theorems.roots_of_a_stack_stand.Goals as goal

pub returns-clause-none : goal.returns-clause-none
returns-clause-none c records k = tt

pub returns-clause-pushed : goal.returns-clause-pushed
returns-clause-pushed c records roots root stand is = stand_pushed records roots root stand is

pub returns-clause-popped : goal.returns-clause-popped
returns-clause-popped c records roots root stand = stand_popped records roots root stand

pub returns-clause-cut : goal.returns-clause-cut
returns-clause-cut c records roots n stand = stand_cut records roots n stand

pub returns-clause-set : goal.returns-clause-set
returns-clause-set c records roots i root stand is = stand_set records roots i root stand is

pub returns-clause-made : goal.returns-clause-made
returns-clause-made c records fields roots stand = stand_made records fields roots stand
