use Rattle.std.proofs.Common.{◌∙◌}
use Rattle.mail_threads.proofs.Going.{still_room}
use Rattle.mail_threads.proofs.Turns.{turn_late}
use Rattle.mail_threads.proofs.receiving.take_next.Goals as goal

pub take_one-taken-requires-clause-inside : goal.take_one-taken-requires-clause-inside
take_one-taken-requires-clause-inside g c =
    c.await_item.ensures.rests.returns.goes.inside ∙ c.requires.inside

pub take_one-taken-requires-clause-room : goal.take_one-taken-requires-clause-room
take_one-taken-requires-clause-room g c =
    still_room c.args.m.now c.await_item.new.m c.await_item.ensures.rests.returns c.requires.room

pub returns : goal.returns
returns g c = record {
  takes = turn_late c.take_one-taken.result c.args.m.now c.await_item.new.m
      c.take_one-taken.new.m c.await_item.ensures.rests c.take_one-taken.ensures.takes;
}
