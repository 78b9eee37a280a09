use Rattle.std.proofs.Common.{arith, []}
use Rattle.version_store.proofs.Backward.{walk_on, walk_starts, walk_stops, walked_room}
use Rattle.held_places.proofs.Going.{in_still}
use Rattle.version_store.proofs.Leaving.{alone_then, nothing_then}
use Rattle.version_store.proofs.walking.walk_back.Goals as goal

pub loop-init : goal.loop-init
loop-init g c = (
  walk_starts c.args.m.now c.read_number.new.m c.args.v c.read_number.result c.requires.version
      c.read_number.ensures.number,
  c.read_number.ensures.writes,
  c.read_number.ensures.alone,
)

pub follow-requires-clause-inside : goal.follow-requires-clause-inside
follow-requires-clause-inside g c =
    let walked = c.loop.invariant.0 in
    in_still c.args.m.now c.loop.m walked.cells [] c.requires.inside walked.goes walked.held

pub follow-requires-clause-room : goal.follow-requires-clause-room
follow-requires-clause-room g c =
    walked_room c.args.m.now c.loop.m c.args.v c.loop.at c.loop.counter c.args.back
    c.loop.invariant.0 c.loop-test.true c.requires.kept c.requires.room

pub follow-requires-clause-later : goal.follow-requires-clause-later
follow-requires-clause-later g c =
    omega (arith, c.loop.invariant.0.number_is, c.loop-test.true, c.requires.back)

pub returns-in-None-clause-stopped : goal.returns-in-None-clause-stopped
returns-in-None-clause-stopped g c =
    walk_stops g.C.Choice.next c.args.m.now c.loop.m c.follow.new.m c.args.v c.loop.at
    c.loop.counter c.args.back c.loop-test.true c.loop.invariant.0 c.in-None.ensures.ends

pub loop-preserved : goal.loop-preserved
loop-preserved g c = (
  walk_on c.args.m.now c.loop.m c.follow.new.m c.args.v c.loop.at c.in-Some.before c.loop.counter
      c.loop.invariant.0 c.in-Some.ensures.follows,
  nothing_then [] c.args.m.now c.loop.m c.follow.new.m c.loop.invariant.1 c.follow.ensures.writes,
  alone_then c.args.m.now c.loop.m c.follow.new.m c.loop.invariant.2 c.follow.ensures.alone,
)

pub returns-in-None-clause-writes : goal.returns-in-None-clause-writes
returns-in-None-clause-writes g c =
    nothing_then [] c.args.m.now c.loop.m c.follow.new.m c.loop.invariant.1 c.follow.ensures.writes

pub returns-in-None-clause-alone : goal.returns-in-None-clause-alone
returns-in-None-clause-alone g c =
    alone_then c.args.m.now c.loop.m c.follow.new.m c.loop.invariant.2 c.follow.ensures.alone
