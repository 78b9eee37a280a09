use Rattle.cell_making.proofs.Resting.{loose_same}
use Rattle.mutator_events.specs.declared.values.Value.TheVariants as values
use Rattle.example_root.specs.Rule.{number_of}
use Rattle.example_root.proofs.Putting.{has_kept, may_keep, null_found, picks_keep}
use Rattle.example_root.proofs.storing.keep.Goals as goal

pub update-requires-clause-may : goal.update-requires-clause-may
update-requires-clause-may c = may_keep c.args.number c.args.m.now c.requires.holds

pub update-requires-clause-rule : goal.update-requires-clause-rule
update-requires-clause-rule c =
    picks_keep c.args.number c.args.m.now c.requires.holds c.requires.first

pub unreachable-requires : goal.unreachable-requires
unreachable-requires c =
    null_found c.args.number c.args.m.now c.requires.holds c.requires.first c.requires.empty
    c.update.new.self c.in-Err.field-0.found
    (number_of c.args.m.now.seat.me (values.Held 2)) c.in-Err.ensures.moved.1
    c.in-Err.ensures.moved.0

pub returns-clause-loose : goal.returns-clause-loose
returns-clause-loose c =
    loose_same 8 c.args.m.now c.update.new.self c.update.ensures.places c.requires.holds.loose

pub returns-clause-kept : goal.returns-clause-kept
returns-clause-kept c =
    has_kept c.args.number c.args.m.now c.requires.holds c.update.new.self
    c.update.ensures.places c.in-Ok.ensures.made
