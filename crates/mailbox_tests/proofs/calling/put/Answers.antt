use Rattle.mailbox_tests.proofs.Starting.{sent_ready}
use Rattle.mailbox_tests.proofs.calling.put.Goals as goal

pub returns : goal.returns
returns g c = record {
  ready = sent_ready c.args.number c.args.before c.args.value c.args.m.now c.send.new.m
      c.requires.ready c.send.result c.send.ensures.sent c.send.ensures.full;
}
