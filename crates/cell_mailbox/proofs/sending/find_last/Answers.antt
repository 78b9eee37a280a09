use Rattle.std.proofs.Common.{arith}
use Rattle.cell_mailbox.proofs.Pacing.{paces_answer, paces_end, paces_first, paces_keep}
use Rattle.cell_mailbox.proofs.Pacing.{paces_step}
use Rattle.cell_mailbox.proofs.Walking.{ends_at, last_item, stands_calm, stands_first}
use Rattle.cell_mailbox.proofs.Walking.{stands_next}
use Rattle.cell_mailbox.proofs.sending.find_last.Goals as goal

pub loop-init : goal.loop-init
loop-init g c = (
  stands_first c.args.m.now c.read_latest-latest.new.m c.read_latest-latest.result c.args.held
      c.requires.held c.read_latest-latest.ensures.item,
  paces_first c.args.m.now c.read_latest-latest.new.m c.read_latest-latest.ensures.pace,
)

pub loop-preserved : goal.loop-preserved
loop-preserved g c = (
  stands_next c.args.m.now c.answer.new.self c.args.held c.requires.held
      (stands_calm c.args.m.now c.loop.m c.args.held c.requires.held c.loop.invariant.0 _
      c.answer.new.self c.answer.ensures.calm) c.read_next.new.m c.in-Some-read_next.next
      c.in-Some-read_next.ensures.next c.keep.new.self _ c.keep.ensures.told,
  paces_step c.args.m.now c.loop.m c.answer.new.self c.read_next.new.m c.keep.new.self
      c.loop.invariant.1
      (paces_answer c.loop.m c.answer.new.self c.answer.result c.answer.ensures.calm
      c.answer.ensures.status) c.read_next.ensures.pace
      (paces_keep c.read_next.new.m c.keep.new.self c.args.held c.in-Some-read_next.next 1 1 _
      (omega arith) c.keep.ensures.told),
)

pub read_part-requires-clause-item : goal.read_part-requires-clause-item
read_part-requires-clause-item g c =
    last_item c.args.m.now c.answer.new.self c.args.held c.requires.held
    (stands_calm c.args.m.now c.loop.m c.args.held c.requires.held c.loop.invariant.0 _
    c.answer.new.self c.answer.ensures.calm) c.read_next.new.m c.in-None-read_next.ensures.none

pub returns-in-None-read_next : goal.returns-in-None-read_next
returns-in-None-read_next g c = record {
  last = ends_at c.args.m.now c.answer.new.self c.args.held c.requires.held
      (stands_calm c.args.m.now c.loop.m c.args.held c.requires.held c.loop.invariant.0 _
      c.answer.new.self c.answer.ensures.calm) c.read_next.new.m c.read_part.new.m
      c.read_part.result c.in-None-read_next.ensures.none c.read_part.ensures.part;
  prompt = paces_end c.args.m.now c.loop.m c.answer.new.self c.read_next.new.m
      c.read_part.new.m c.loop.invariant.1
      (paces_answer c.loop.m c.answer.new.self c.answer.result c.answer.ensures.calm
      c.answer.ensures.status) c.read_next.ensures.pace c.read_part.ensures.pace;
}
