use Rattle.cell_tests.proofs.Rounds.{begun}
use Rattle.cell_tests.proofs.working.come_in.Goals as goal

pub returns-clause-within : goal.returns-clause-within
returns-clause-within c =
    let told = c.begin.ensures.told in
    begun c.args.heap.now 0 c.args.seat.now c.requires.out told.0 c.begin.new.self told.1
