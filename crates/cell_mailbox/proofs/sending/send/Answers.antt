use Rattle.std.proofs.Common.{◌∙◌, refl}
use Rattle.cell_mailbox.proofs.Turning.{cut_post, full_all, rests_all, rests_first, sends_all}
use Rattle.cell_mailbox.proofs.Turning.{rests_then, walked_all}
use Rattle.cell_mailbox.proofs.sending.send.Goals as goal

pub loop-init : goal.loop-init
loop-init g c = (rests_first c.args.m.now, refl)

pub cut-requires-clause-kept : goal.cut-requires-clause-kept
cut-requires-clause-kept g c =
    cut_post c.args.m.now c.loop.m c.loop.invariant.0 c.try_to_send-post.new.m
    c.held_len-held.result c.args.value c.held_len-held.ensures.len c.try_to_send-post.result
    c.try_to_send-post.ensures.ends

pub returns-in-Sent-clause-sent : goal.returns-in-Sent-clause-sent
returns-in-Sent-clause-sent g c =
    sends_all c.args.m.now c.loop.m c.loop.invariant.0 c.try_to_send-post.new.m c.cut.new.self
    c.held_len-held.result _ c.held_len-held.ensures.len c.cut.ensures.told
    (record { position = c.in-Sent.position; value = c.args.value }) c.in-Sent.ensures.ends

pub returns-in-Full-clause-full : goal.returns-in-Full-clause-full
returns-in-Full-clause-full g c =
    full_all c.args.m.now c.loop.m c.loop.invariant.0 c.try_to_send-post.new.m c.cut.new.self
    c.held_len-held.result _ c.held_len-held.ensures.len c.cut.ensures.told c.in-Full.full
    c.in-Full.ensures.ends

pub loop-preserved : goal.loop-preserved
loop-preserved g c = (
  rests_then c.args.m.now c.cut.new.self
      (rests_all c.args.m.now c.loop.m c.loop.invariant.0 c.try_to_send-post.new.m
      c.cut.new.self c.held_len-held.result _ c.held_len-held.ensures.len c.cut.ensures.told
      c.in-Lost.ensures.ends) c.back_off.new.m c.back_off.ensures.rests,
  c.try_to_send-post.ensures.queue ∙ c.loop.invariant.1,
)

pub returns-in-Sent-clause-walk : goal.returns-in-Sent-clause-walk
returns-in-Sent-clause-walk g c =
    walked_all c.args.m.now c.loop.m c.loop.invariant.0 c.try_to_send-post.new.m c.cut.new.self
    c.held_len-held.result _ c.held_len-held.ensures.len c.cut.ensures.told
    c.try_to_send-post.ensures.walk

pub returns-in-Full-clause-walk : goal.returns-in-Full-clause-walk
returns-in-Full-clause-walk g c =
    walked_all c.args.m.now c.loop.m c.loop.invariant.0 c.try_to_send-post.new.m c.cut.new.self
    c.held_len-held.result _ c.held_len-held.ensures.len c.cut.ensures.told
    c.try_to_send-post.ensures.walk
