use Rattle.std.proofs.Common.{◌≡◌, false, OnOk, IfErr, sym, subst}
use Rattle.core_machine.specs.Words.{same_field}
use Rattle.mutator_events.specs.Values.{field_at}
use Rattle.mutator_seat.specs.Bound.{Bound, bound}
use Rattle.mutator_seat.specs.Stretches.{SamePlaces}
use Rattle.mutator_seat.specs.Writes.{MayUpdate, PicksUpdate, Updated}
use Rattle.mutator_seat.proofs.mutator.Mutator.update.Goals as goal

pub update-requires-clause-may : goal.update-requires-clause-may
update-requires-clause-may g c =
    subst (λ (m : Bound _). MayUpdate g.P.Keeping.fixed m.seat.me c.args.place c.args.field
    c.args.old c.args.new) (sym c.self.view_is) c.requires.may

pub update-requires-clause-rule : goal.update-requires-clause-rule
update-requires-clause-rule g c =
    subst (λ (m : Bound _). PicksUpdate g.P.Keeping.holds g.P.Keeping.fixed g.C.Choice.next m
    c.args.place c.args.field c.args.old c.args.new) (sym c.self.view_is) c.requires.rule

pub returns-clause-made : goal.returns-clause-made
returns-clause-made g c =
    let after = bound c.self.inside.heap.now c.update.new.seat in
    subst (λ (m : Bound _). OnOk c.update.result (Updated g.P.Keeping.holds g.P.Keeping.fixed
    g.C.Choice.next m c.args.place c.args.field c.args.old c.args.new
    (field_at m.seat.me.own.held c.args.old) after)) c.self.view_is c.update.ensures.made

pub returns-clause-moved : goal.returns-clause-moved
returns-clause-moved g c =
    let after = bound c.self.inside.heap.now c.update.new.seat in
    subst (λ (m : Bound _). IfErr c.update.result (λ moved.
    (same_field moved.found (field_at m.seat.me.own.held c.args.old) ≡ false)
    × Updated g.P.Keeping.holds g.P.Keeping.fixed g.C.Choice.next m c.args.place c.args.field
    c.args.old c.args.new moved.found after)) c.self.view_is c.update.ensures.moved

pub returns-clause-places : goal.returns-clause-places
returns-clause-places g c =
    let after = bound c.self.inside.heap.now c.update.new.seat in
    subst (λ (m : Bound _). SamePlaces m after) c.self.view_is c.update.ensures.places
