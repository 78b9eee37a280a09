use Rattle.cell_mailbox.proofs.Turning.{cut_turn, empty_all, rests_all, rests_calm, rests_first}
use Rattle.cell_mailbox.proofs.Turning.{takes_all}
use Rattle.std.proofs.Common.{arith}
use Rattle.cell_mailbox.proofs.Pacing.{paces_answer, paces_keep, paces_none, paces_prompt}
use Rattle.cell_mailbox.proofs.Pacing.{paces_turn}
use Rattle.cell_mailbox.proofs.taking.take.Goals as goal

pub loop-init : goal.loop-init
loop-init g c = (rests_first c.args.m.now, paces_none c.args.m.now)

pub cut-requires-clause-kept : goal.cut-requires-clause-kept
cut-requires-clause-kept g c =
    cut_turn c.args.m.now c.answer.new.self
    (rests_calm _ c.args.m.now c.loop.m c.answer.new.self c.loop.invariant.0
    c.answer.ensures.calm) c.try_to_take-turn.new.m c.held_len-held.result
    c.held_len-held.ensures.len c.try_to_take-turn.result c.try_to_take-turn.ensures.ends

pub returns-in-Took-clause-took : goal.returns-in-Took-clause-took
returns-in-Took-clause-took g c =
    takes_all c.args.m.now c.answer.new.self
    (rests_calm _ c.args.m.now c.loop.m c.answer.new.self c.loop.invariant.0
    c.answer.ensures.calm) c.try_to_take-turn.new.m c.cut.new.self c.held_len-held.result _
    c.held_len-held.ensures.len c.cut.ensures.told c.in-Took.item c.in-Took.ensures.ends

pub returns-in-Empty-clause-none : goal.returns-in-Empty-clause-none
returns-in-Empty-clause-none g c =
    empty_all c.args.m.now c.answer.new.self
    (rests_calm _ c.args.m.now c.loop.m c.answer.new.self c.loop.invariant.0
    c.answer.ensures.calm) c.try_to_take-turn.new.m c.cut.new.self c.held_len-held.result _
    c.held_len-held.ensures.len c.cut.ensures.told c.in-Empty.ensures.ends

pub loop-preserved : goal.loop-preserved
loop-preserved g c = (
  rests_all c.args.m.now c.answer.new.self
      (rests_calm _ c.args.m.now c.loop.m c.answer.new.self c.loop.invariant.0
      c.answer.ensures.calm) c.try_to_take-turn.new.m c.cut.new.self c.held_len-held.result _
      c.held_len-held.ensures.len c.cut.ensures.told c.in-Lost.ensures.ends,
  paces_turn c.args.m.now c.loop.m c.answer.new.self c.try_to_take-turn.new.m c.cut.new.self
      c.loop.invariant.1
      (paces_answer c.loop.m c.answer.new.self c.answer.result c.answer.ensures.calm
      c.answer.ensures.status) c.try_to_take-turn.ensures.pace
      (paces_keep c.try_to_take-turn.new.m c.cut.new.self c.held_len-held.result 0 0 5 _
      (omega arith) c.cut.ensures.told),
)

pub returns-in-Took-clause-prompt : goal.returns-in-Took-clause-prompt
returns-in-Took-clause-prompt g c =
    paces_prompt c.args.m.now c.cut.new.self
    (paces_turn c.args.m.now c.loop.m c.answer.new.self c.try_to_take-turn.new.m c.cut.new.self
    c.loop.invariant.1
    (paces_answer c.loop.m c.answer.new.self c.answer.result c.answer.ensures.calm
    c.answer.ensures.status) c.try_to_take-turn.ensures.pace
    (paces_keep c.try_to_take-turn.new.m c.cut.new.self c.held_len-held.result 0 0 5 _
    (omega arith) c.cut.ensures.told))

pub returns-in-Empty-clause-prompt : goal.returns-in-Empty-clause-prompt
returns-in-Empty-clause-prompt g c =
    paces_prompt c.args.m.now c.cut.new.self
    (paces_turn c.args.m.now c.loop.m c.answer.new.self c.try_to_take-turn.new.m c.cut.new.self
    c.loop.invariant.1
    (paces_answer c.loop.m c.answer.new.self c.answer.result c.answer.ensures.calm
    c.answer.ensures.status) c.try_to_take-turn.ensures.pace
    (paces_keep c.try_to_take-turn.new.m c.cut.new.self c.held_len-held.result 0 0 5 _
    (omega arith) c.cut.ensures.told))
