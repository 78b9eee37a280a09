use Rattle.std.proofs.Common.{arith}
use Rattle.cell_making.proofs.Resting.{has_calm, has_stays, loose_calm}
use Rattle.example_root.proofs.Finding.{has_of}
use Rattle.example_root.proofs.Making.{makes_record, may_term}
use Rattle.example_root.proofs.storing.make_record.Goals as goal

pub fill_record-requires-clause-inside : goal.fill_record-requires-clause-inside
fill_record-requires-clause-inside g c = c.requires.holds.loose.is_in.inside

pub fill_record-requires-clause-room : goal.fill_record-requires-clause-room
fill_record-requires-clause-room g c =
    let two = c.requires.holds.two in
    let room = c.requires.holds.loose.room_is in omega (arith, two, room)

pub fill_record-requires-clause-terms : goal.fill_record-requires-clause-terms
fill_record-requires-clause-terms g c =
    may_term c.args.m.now.seat.me.known c.args.number c.requires.small

pub returns-in-Ok-clause-made : goal.returns-in-Ok-clause-made
returns-in-Ok-clause-made g c =
    makes_record c.args.m.now c.fill_record.new.m c.args.number _ c.in-Ok.ensures.made
    c.requires.holds

pub returns-in-Ok-clause-same : goal.returns-in-Ok-clause-same
returns-in-Ok-clause-same g c =
    has_of _ _ _ (has_stays c.args.m.now c.fill_record.new.m c.in-Ok.ensures.made.stays)

pub returns-in-Err-clause-none : goal.returns-in-Err-clause-none
returns-in-Err-clause-none g c =
    loose_calm _ c.args.m.now c.fill_record.new.m c.in-Err.ensures.full 8
    c.requires.holds.loose

pub returns-in-Err-clause-same : goal.returns-in-Err-clause-same
returns-in-Err-clause-same g c =
    has_of _ _ _ (has_calm _ c.args.m.now c.fill_record.new.m c.in-Err.ensures.full)
