use Rattle.cell_mailbox.proofs.Pacing.{paces_two}
use Rattle.cell_mailbox.proofs.Trying.{looked_last, looked_next}
use Rattle.cell_mailbox.proofs.waiting.sees_item.Goals as goal

pub returns-in-Some : goal.returns-in-Some
returns-in-Some c = record {
  ends = looked_next c.args.m.now c.read_latest-latest.new.m c.read_next.new.m
      c.read_latest-latest.result c.in-Some.field-0 c.read_latest-latest.ensures.item
      c.in-Some.ensures.next;
  pace = paces_two c.args.m.now c.read_latest-latest.new.m c.read_next.new.m
      c.read_latest-latest.ensures.pace c.read_next.ensures.pace;
}

pub returns-in-None : goal.returns-in-None
returns-in-None c = record {
  ends = looked_last c.args.m.now c.read_latest-latest.new.m c.read_next.new.m
      c.read_latest-latest.result c.read_latest-latest.ensures.item c.in-None.ensures.none;
  pace = paces_two c.args.m.now c.read_latest-latest.new.m c.read_next.new.m
      c.read_latest-latest.ensures.pace c.read_next.ensures.pace;
}
