use Rattle.std.proofs.Common.{refl, true, false}
use Rattle.cell_making.proofs.Resting.{loose_same}
use Rattle.heap_rule.proofs.SameFields.{same_value}
use Rattle.mutator_events.specs.declared.values.Value.TheVariants as values
use Rattle.mutator_events.specs.Values.{field_at}
use Rattle.example_log.proofs.Exchanges.{appends_if, may_exchange, picks_exchange}
use Rattle.example_log.proofs.appending.exchange.Goals as goal

pub update-requires-clause-may : goal.update-requires-clause-may
update-requires-clause-may c = may_exchange c.args.number c.args.m.now c.requires.holds

pub update-requires-clause-rule : goal.update-requires-clause-rule
update-requires-clause-rule c = picks_exchange c.args.number c.args.m.now c.requires.holds

pub returns-in-Ok-clause-loose : goal.returns-in-Ok-clause-loose
returns-in-Ok-clause-loose c =
    loose_same 8 c.args.m.now c.update.new.self c.in-Ok.ensures.made.places
    c.requires.holds.loose

pub returns-in-Ok-clause-appended : goal.returns-in-Ok-clause-appended
returns-in-Ok-clause-appended c =
    appends_if c.args.number c.args.m.now c.requires.holds c.update.new.self
    (field_at c.args.m.now.seat.me.own.held (values.Held 1)) c.in-Ok.ensures.made true
    (same_value _ (field_at c.args.m.now.seat.me.own.held (values.Held 1)) refl)

pub returns-in-Err-clause-loose : goal.returns-in-Err-clause-loose
returns-in-Err-clause-loose c =
    loose_same 8 c.args.m.now c.update.new.self c.in-Err.ensures.moved.1.places
    c.requires.holds.loose

pub returns-in-Err-clause-appended : goal.returns-in-Err-clause-appended
returns-in-Err-clause-appended c =
    appends_if c.args.number c.args.m.now c.requires.holds c.update.new.self
    c.in-Err.field-0.found c.in-Err.ensures.moved.1 false c.in-Err.ensures.moved.0
