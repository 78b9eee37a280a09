use Rattle.mailbox_tests.proofs.Starting.{waited_ready}
use Rattle.mailbox_tests.proofs.calling.wait.Goals as goal

pub returns : goal.returns
returns c = record {
  ready = waited_ready c.args.number c.args.before c.args.m.now c.await_item.new.m
      c.requires.ready c.await_item.ensures.rests;
}
