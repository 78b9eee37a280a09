use Rattle.client_threads.proofs.Waiting.{waits_calm}
use Rattle.client_threads.proofs.answering.handshake.Goals as goal

pub returns : goal.returns
returns c = record {
  waits = waits_calm _ c.args.m.now c.answer.new.self c.answer.ensures.calm;
}
