use Rattle.example_counter.proofs.Exchanges.{adds_if, found_same, loose_after, may_exchange}
use Rattle.example_counter.proofs.Exchanges.{picks_exchange}
use Rattle.mutator_events.specs.declared.values.Value.TheVariants as values
use Rattle.mutator_events.specs.Values.{field_at}
use Rattle.std.proofs.Common.{true, false}
use Rattle.example_counter.proofs.adding.exchange.Goals as goal

pub update-requires-clause-may : goal.update-requires-clause-may
update-requires-clause-may c = may_exchange c.args.count c.args.m.now c.requires.holds

pub update-requires-clause-rule : goal.update-requires-clause-rule
update-requires-clause-rule c = picks_exchange c.args.count c.args.m.now c.requires.holds

pub returns-in-Ok-clause-loose : goal.returns-in-Ok-clause-loose
returns-in-Ok-clause-loose c =
    loose_after c.args.count c.args.m.now c.requires.holds c.update.new.self
    (field_at c.args.m.now.seat.me.own.held (values.Held 1)) c.in-Ok.ensures.made

pub returns-in-Ok-clause-added : goal.returns-in-Ok-clause-added
returns-in-Ok-clause-added c =
    adds_if c.args.count c.args.m.now c.requires.holds c.update.new.self
    (field_at c.args.m.now.seat.me.own.held (values.Held 1)) c.in-Ok.ensures.made true
    (found_same c.args.count c.args.m.now c.requires.holds)

pub returns-in-Err-clause-loose : goal.returns-in-Err-clause-loose
returns-in-Err-clause-loose c =
    loose_after c.args.count c.args.m.now c.requires.holds c.update.new.self
    c.in-Err.field-0.found c.in-Err.ensures.moved.1

pub returns-in-Err-clause-added : goal.returns-in-Err-clause-added
returns-in-Err-clause-added c =
    adds_if c.args.count c.args.m.now c.requires.holds c.update.new.self
    c.in-Err.field-0.found c.in-Err.ensures.moved.1 false c.in-Err.ensures.moved.0
