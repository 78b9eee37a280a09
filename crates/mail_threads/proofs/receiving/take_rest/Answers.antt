use Rattle.std.proofs.Common.{◌∙◌, []}
use Rattle.mail_threads.proofs.Going.{still_room, returns_none, returns_then}
use Rattle.mail_threads.proofs.Turns.{drained_first, drained_item}
use Rattle.mail_threads.proofs.receiving.take_rest.Goals as goal

pub loop-init : goal.loop-init
loop-init g c = (
  returns_none c.args.m.now,
  drained_first c.args.items.now.items c.args.m.now,
)

pub take_one-requires-clause-inside : goal.take_one-requires-clause-inside
take_one-requires-clause-inside g c = c.loop.invariant.0.goes.inside ∙ c.requires.inside

pub take_one-requires-clause-room : goal.take_one-requires-clause-room
take_one-requires-clause-room g c =
    still_room c.args.m.now c.loop.m c.loop.invariant.0 c.requires.room

pub returns-then-not-keep-clause-returns : goal.returns-then-not-keep-clause-returns
returns-then-not-keep-clause-returns g c =
    returns_then [] c.args.m.now c.loop.m c.take_one.new.m c.loop.invariant.0
    c.take_one.ensures.takes.returns

pub loop-preserved : goal.loop-preserved
loop-preserved g c = (
  returns_then [] c.args.m.now c.loop.m c.take_one.new.m c.loop.invariant.0
      c.take_one.ensures.takes.returns,
  drained_item c.args.items.now.items c.loop.items.items c.keep.new.items.items
      c.in-Some-take_one.item c.args.m.now c.loop.m c.take_one.new.m c.loop.invariant.1
      c.in-Some-take_one.ensures.takes c.if-not-keep.ensures.kept,
)

pub returns-in-None-take_one-clause-returns : goal.returns-in-None-take_one-clause-returns
returns-in-None-take_one-clause-returns g c =
    returns_then [] c.args.m.now c.loop.m c.take_one.new.m c.loop.invariant.0
    c.take_one.ensures.takes.returns

pub returns-in-None-take_one-clause-emptied : goal.returns-in-None-take_one-clause-emptied
returns-in-None-take_one-clause-emptied g c = record {
  from = c.loop.m;
  drained = c.loop.invariant.1;
  last = c.in-None-take_one.ensures.takes;
}
