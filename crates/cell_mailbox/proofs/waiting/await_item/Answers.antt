use Rattle.std.proofs.Common.{arith}
use Rattle.cell_mailbox.specs.declared.turns.Turn.TheVariants as turns
use Rattle.cell_mailbox.proofs.Pacing.{paces_answer, paces_keep, paces_none, paces_prompt}
use Rattle.cell_mailbox.proofs.Pacing.{paces_turn}
use Rattle.cell_mailbox.proofs.Turning.{cut_turn, rests_all, rests_calm, rests_first}
use Rattle.cell_mailbox.proofs.waiting.await_item.Goals as goal

pub loop-look-init : goal.loop-look-init
loop-look-init c = (rests_first c.args.m.now, paces_none c.args.m.now)

pub cut-requires-clause-kept : goal.cut-requires-clause-kept
cut-requires-clause-kept c =
    cut_turn c.args.m.now c.answer.new.self
    (rests_calm _ c.args.m.now c.loop-look.m c.answer.new.self c.loop-look.invariant.0
    c.answer.ensures.calm) c.sees_item-there.new.m c.held_len-held.result
    c.held_len-held.ensures.len turns.Lost c.sees_item-there.ensures.ends

pub returns-then-there : goal.returns-then-there
returns-then-there c = record {
  rests = rests_all c.args.m.now c.answer.new.self
      (rests_calm _ c.args.m.now c.loop-look.m c.answer.new.self c.loop-look.invariant.0
      c.answer.ensures.calm) c.sees_item-there.new.m c.cut.new.self c.held_len-held.result _
      c.held_len-held.ensures.len c.cut.ensures.told c.sees_item-there.ensures.ends;
  prompt = paces_prompt c.args.m.now c.cut.new.self
      (paces_turn c.args.m.now c.loop-look.m c.answer.new.self c.sees_item-there.new.m
      c.cut.new.self c.loop-look.invariant.1
      (paces_answer c.loop-look.m c.answer.new.self c.answer.result c.answer.ensures.calm
      c.answer.ensures.status) c.sees_item-there.ensures.pace
      (paces_keep c.sees_item-there.new.m c.cut.new.self c.held_len-held.result 0 0 5 _
      (omega arith) c.cut.ensures.told));
}

pub loop-look-preserved : goal.loop-look-preserved
loop-look-preserved c = (
  rests_all c.args.m.now c.answer.new.self
      (rests_calm _ c.args.m.now c.loop-look.m c.answer.new.self c.loop-look.invariant.0
      c.answer.ensures.calm) c.sees_item-there.new.m c.cut.new.self c.held_len-held.result _
      c.held_len-held.ensures.len c.cut.ensures.told c.sees_item-there.ensures.ends,
  paces_turn c.args.m.now c.loop-look.m c.answer.new.self c.sees_item-there.new.m
      c.cut.new.self c.loop-look.invariant.1
      (paces_answer c.loop-look.m c.answer.new.self c.answer.result c.answer.ensures.calm
      c.answer.ensures.status) c.sees_item-there.ensures.pace
      (paces_keep c.sees_item-there.new.m c.cut.new.self c.held_len-held.result 0 0 5 _
      (omega arith) c.cut.ensures.told),
)

pub returns : goal.returns
returns c = record {
  rests = c.loop-look.invariant.0;
  prompt = paces_prompt c.args.m.now c.loop-look.m c.loop-look.invariant.1;
}
