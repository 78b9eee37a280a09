use Rattle.client_threads.specs.Going.{answered}
use Rattle.client_threads.proofs.Going.{waited_went}
use Rattle.client_threads.proofs.Waiting.{waits_may}
use Rattle.client_threads.proofs.answering.take_turn.Goals as goal

pub answer_next-answered-requires-clause-may : goal.answer_next-answered-requires-clause-may
answer_next-answered-requires-clause-may g c =
    waits_may c.args.m.now c.await_gate.new.m c.await_gate.ensures.waits c.args.session.now
    c.requires.may

pub returns-then-answered : goal.returns-then-answered
returns-then-answered g c =
    let next = c.answer_next-answered in
    record {
      went = waited_went (answered next.result c.args.command.now) c.args.session.now
          next.new.session c.args.m.now c.await_gate.new.m next.new.m c.await_gate.ensures.waits
          next.ensures.went;
    }

pub returns-else-answered : goal.returns-else-answered
returns-else-answered g c =
    let next = c.answer_next-answered in
    record {
      went = waited_went (answered next.result c.args.command.now) c.args.session.now
          next.new.session c.args.m.now c.await_gate.new.m next.new.m c.await_gate.ensures.waits
          next.ensures.went;
    }
