use Rattle.std.proofs.Common.{List, not, refl, subst}
use Rattle.doc_model.specs.declared.command.Command.{Command}
use Rattle.client_threads.specs.Going.{Answers}
use Rattle.client_threads.proofs.Leaving.{done, entered_may}
use Rattle.client_threads.proofs.running.run_client.Goals as goal

pub answer_all-whole-requires-clause-may : goal.answer_all-whole-requires-clause-may
answer_all-whole-requires-clause-may g c =
    entered_may c.args.heap.now c.args.queue.now c.args.limits c.args.number c.args.client
    c.come_in-m.result c.requires.keep c.requires.ready c.come_in-m.ensures.entered

pub returns : goal.returns
returns g c = record {
  done = done c.args.heap.now c.args.queue.now c.args.limits c.args.scripts.now c.args.number
      c.args.client
      (record {
        seat = c.leave.result;
        pass = c.into_pass.result;
        own = record {
          session = c.answer_all-whole.new.session;
          failed = not c.answer_all-whole.result;
        };
      })
      c.come_in-m.result c.answer_all-whole.new.m c.answer_all-whole.result c.requires.ready
      c.come_in-m.ensures.entered
      (subst
      (λ (script : List Command). Answers c.answer_all-whole.result script c.args.client.own.session
      c.come_in-m.result c.answer_all-whole.new.session c.answer_all-whole.new.m)
      c.script_at-script.ensures.script c.answer_all-whole.ensures.answers)
      c.leave.ensures.left refl;
}
