use Rattle.std.proofs.Common.{[], arith}
use Rattle.cell_mailbox.proofs.Calling.{reads_still, whole}
use Rattle.cell_mailbox.proofs.Pacing.{paces_three}
use Rattle.cell_mailbox.proofs.reading.read_item.Goals as goal

pub read_part-sender-requires-clause-item : goal.read_part-sender-requires-clause-item
read_part-sender-requires-clause-item c =
    let is = c.requires.item in (
      is.0,
      reads_still _ [] c.args.m.now c.read_part-position.new.m
          c.read_part-position.ensures.part.reads c.args.place is.0 is.1,
    )

pub read_part-value-requires-clause-item : goal.read_part-value-requires-clause-item
read_part-value-requires-clause-item c =
    let is = c.requires.item in (
      is.0,
      reads_still _ [] c.read_part-position.new.m c.read_part-sender.new.m
          c.read_part-sender.ensures.part.reads c.args.place is.0
          (reads_still _ [] c.args.m.now c.read_part-position.new.m
          c.read_part-position.ensures.part.reads c.args.place is.0 is.1),
    )

pub overflow_cast-result : goal.overflow_cast-result
overflow_cast-result c =
    let is = c.requires.item in
    let known = reads_still _ [] c.args.m.now c.read_part-position.new.m
    c.read_part-position.ensures.part.reads c.args.place is.0 is.1 in
    let same = c.read_part-sender.ensures.part.is is.0 known in
    let low = (c.read_part-sender.ensures.part.small is.0 known).sender in
    omega (arith, same, low)

pub returns : goal.returns
returns c = record {
  item = whole c.args.m.now c.read_part-position.new.m c.read_part-sender.new.m
      c.read_part-value.new.m c.args.place c.read_part-position.result
      c.read_part-sender.result c.read_part-value.result c.read_part-position.ensures.part
      c.read_part-sender.ensures.part c.read_part-value.ensures.part;
  pace = paces_three c.args.m.now c.read_part-position.new.m c.read_part-sender.new.m
      c.read_part-value.new.m c.read_part-position.ensures.pace c.read_part-sender.ensures.pace
      c.read_part-value.ensures.pace;
}
