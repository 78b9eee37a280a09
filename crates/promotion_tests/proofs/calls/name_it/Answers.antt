use Rattle.promotion_tests.proofs.Makings.{box_may}
use Rattle.std.proofs.Common.{length}
use Rattle.promotion_tests.proofs.calls.name_it.Goals as goal

pub fill_box-requires-clause-named : goal.fill_box-requires-clause-named
fill_box-requires-clause-named g c =
    box_may c.args.m.now.seat.me (length c.args.m.now.seat.me.own.held) c.args.place
    c.requires.there c.requires.record
