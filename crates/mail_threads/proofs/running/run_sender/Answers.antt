use Rattle.std.proofs.Common.{List, subst, ℕ}
use Rattle.mail_threads.specs.Calls.{Posted}
use Rattle.mail_threads.proofs.Leaving.{sender_done}
use Rattle.mail_threads.proofs.running.run_sender.Goals as goal

pub returns : goal.returns
returns g c = record {
  done = sender_done c.args.heap.now c.args.queue.now c.args.scripts.now c.args.number
      c.args.sender
      (record {
        seat = c.leave.result;
        pass = c.into_pass.result;
        own = c.send_all.new.sent;
      })
      c.come_in-m.result c.send_all.new.m c.requires.ready c.come_in-m.ensures.entered
      (subst (λ (script : List ℕ). Posted script c.send_all.new.sent.items c.come_in-m.result
      c.send_all.new.m) c.script_at-script.ensures.script c.send_all.ensures.posted)
      c.leave.ensures.left;
}
