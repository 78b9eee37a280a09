use Rattle.mailbox_tests.proofs.Starting.{ready_first}
use Rattle.mailbox_tests.proofs.opening.come_in.Goals as goal

pub returns : goal.returns
returns c =
    let told = c.begin.ensures.told in
    record {
      ready = ready_first c.args.heap.now c.args.seat c.args.number c.new-m.result
          c.begin.new.self _ c.requires.new c.new-m.ensures.mutator told.1 c.begin.ensures.inside
          c.begin.ensures.held;
    }
