use Rattle.cell_mailbox.proofs.Pacing.{paces_answer, paces_none, paces_on, paces_prompt}
use Rattle.cell_mailbox.proofs.Turning.{rests_calm, rests_first}
use Rattle.cell_mailbox.proofs.waiting.back_off.Goals as goal

pub loop-piece-init : goal.loop-piece-init
loop-piece-init c = (rests_first c.args.m.now, paces_none c.args.m.now)

pub loop-piece-preserved : goal.loop-piece-preserved
loop-piece-preserved c = (
  rests_calm _ c.args.m.now c.loop-piece.m c.answer-answered.new.self c.loop-piece.invariant.0
      c.answer-answered.ensures.calm,
  paces_on c.args.m.now c.loop-piece.m c.answer-answered.new.self c.loop-piece.invariant.1
      (paces_answer c.loop-piece.m c.answer-answered.new.self c.answer-answered.result
      c.answer-answered.ensures.calm c.answer-answered.ensures.status),
)

pub returns : goal.returns
returns c = record {
  rests = c.loop-piece.invariant.0;
  prompt = paces_prompt c.args.m.now c.loop-piece.m c.loop-piece.invariant.1;
}
