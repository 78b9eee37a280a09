use Rattle.std.proofs.Common.{None, refl, true, false}
use Rattle.cell_making.proofs.Resting.{loose_same}
use Rattle.heap_rule.proofs.SameFields.{same_value}
use Rattle.mutator_events.specs.declared.values.Value.TheVariants as values
use Rattle.mutator_events.specs.Values.{field_at}
use Rattle.heap_rule.specs.NoRule.{no_field_is_fixed}
use Rattle.held_places.proofs.Writing.{wrote_goes}
use Rattle.example_root.specs.Rule.{HasKept}
use Rattle.example_root.proofs.Putting.{has_if, may_forget, picks_forget}
use Rattle.example_root.proofs.storing.forget.Goals as goal

pub update-requires-clause-may : goal.update-requires-clause-may
update-requires-clause-may c =
    may_forget c.requires.holds.number c.args.m.now c.requires.holds.holds

pub update-requires-clause-rule : goal.update-requires-clause-rule
update-requires-clause-rule c =
    picks_forget c.requires.holds.number c.args.m.now c.requires.holds.holds c.requires.first

pub returns-in-Ok-clause-loose : goal.returns-in-Ok-clause-loose
returns-in-Ok-clause-loose c =
    loose_same 8 c.args.m.now c.update.new.self c.update.ensures.places
    c.requires.holds.holds.loose

pub returns-in-Ok-clause-gone : goal.returns-in-Ok-clause-gone
returns-in-Ok-clause-gone c =
    has_if c.requires.holds.number c.args.m.now c.requires.holds.holds c.update.new.self
    (values.Held 2) values.Null None (field_at c.args.m.now.seat.me.own.held (values.Held 2))
    c.update.ensures.places c.in-Ok.ensures.made true
    (same_value _ (field_at c.args.m.now.seat.me.own.held (values.Held 2)) refl)

pub returns-in-Err-clause-loose : goal.returns-in-Err-clause-loose
returns-in-Err-clause-loose c =
    loose_same 8 c.args.m.now c.update.new.self c.update.ensures.places
    c.requires.holds.holds.loose

pub returns-in-Err-clause-kept : goal.returns-in-Err-clause-kept
returns-in-Err-clause-kept c =
    has_if c.requires.holds.number c.args.m.now c.requires.holds.holds c.update.new.self
    (values.Held 2) values.Null None c.in-Err.field-0.found
    c.update.ensures.places c.in-Err.ensures.moved.1 false c.in-Err.ensures.moved.0

pub returns-in-Ok-clause-goes : goal.returns-in-Ok-clause-goes
returns-in-Ok-clause-goes c =
    wrote_goes no_field_is_fixed HasKept _ c.args.m.now c.update.new.self 1 0 (values.Held 2)
    values.Null (field_at c.args.m.now.seat.me.own.held (values.Held 2)) c.in-Ok.ensures.made

pub returns-in-Err-clause-goes : goal.returns-in-Err-clause-goes
returns-in-Err-clause-goes c =
    wrote_goes no_field_is_fixed HasKept _ c.args.m.now c.update.new.self 1 0 (values.Held 2)
    values.Null c.in-Err.field-0.found c.in-Err.ensures.moved.1
