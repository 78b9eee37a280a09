use Rattle.mailbox_tests.proofs.Starting.{taken_ready}
use Rattle.mailbox_tests.proofs.calling.get.Goals as goal

pub returns : goal.returns
returns g c = record {
  ready = taken_ready c.args.number c.args.before c.args.m.now c.take.new.m c.requires.ready
      c.take.result c.take.ensures.took c.take.ensures.none;
}
