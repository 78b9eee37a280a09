use Rattle.cell_mailbox.proofs.Trying.{empty_try, lost_try, may_go_on, picks_go_on, took_try}
use Rattle.cell_mailbox.proofs.Pacing.{paces_try, paces_two}
use Rattle.cell_mailbox.proofs.taking.try_to_take.Goals as goal

pub go_on-requires-clause-may : goal.go_on-requires-clause-may
go_on-requires-clause-may c =
    may_go_on c.args.m.now c.read_latest-latest.new.m c.read_next.new.m c.read_item-item.new.m
    c.read_latest-latest.result c.in-Some.next c.read_item-item.result c.requires.inside
    c.read_latest-latest.ensures.item c.in-Some.ensures.next c.read_item-item.ensures.item

pub go_on-requires-clause-rule : goal.go_on-requires-clause-rule
go_on-requires-clause-rule c =
    picks_go_on c.args.m.now c.read_latest-latest.new.m c.read_next.new.m c.read_item-item.new.m
    c.read_latest-latest.result c.in-Some.next c.read_item-item.result c.requires.inside
    c.read_latest-latest.ensures.item c.in-Some.ensures.next c.read_item-item.ensures.item

pub returns-in-Ok : goal.returns-in-Ok
returns-in-Ok c = record {
  ends = took_try c.args.m.now c.read_latest-latest.new.m c.read_next.new.m
      c.read_item-item.new.m c.read_latest-latest.result c.in-Some.next c.read_item-item.result
      c.requires.inside c.read_latest-latest.ensures.item c.in-Some.ensures.next
      c.read_item-item.ensures.item c.go_on.new.m c.in-Ok.ensures.made;
  pace = paces_try c.args.m.now c.read_latest-latest.new.m c.read_next.new.m
      c.read_item-item.new.m c.go_on.new.m c.read_latest-latest.ensures.pace
      c.read_next.ensures.pace c.read_item-item.ensures.pace c.go_on.ensures.pace;
}

pub returns-in-Err : goal.returns-in-Err
returns-in-Err c = record {
  ends = lost_try c.args.m.now c.read_latest-latest.new.m c.read_next.new.m
      c.read_item-item.new.m c.read_latest-latest.result c.in-Some.next c.read_item-item.result
      c.requires.inside c.read_latest-latest.ensures.item c.in-Some.ensures.next
      c.read_item-item.ensures.item c.go_on.new.m _ c.in-Err.ensures.moved.1
      c.in-Err.ensures.moved.0;
  pace = paces_try c.args.m.now c.read_latest-latest.new.m c.read_next.new.m
      c.read_item-item.new.m c.go_on.new.m c.read_latest-latest.ensures.pace
      c.read_next.ensures.pace c.read_item-item.ensures.pace c.go_on.ensures.pace;
}

pub returns-in-None : goal.returns-in-None
returns-in-None c = record {
  ends = empty_try c.args.m.now c.read_latest-latest.new.m c.read_next.new.m
      c.read_latest-latest.result c.requires.inside c.read_latest-latest.ensures.item
      c.in-None.ensures.none;
  pace = paces_two c.args.m.now c.read_latest-latest.new.m c.read_next.new.m
      c.read_latest-latest.ensures.pace c.read_next.ensures.pace;
}
