use Rattle.std.proofs.Common.{sym, ◌∙◌, ap, subst}
use Rattle.core_machine.specs.declared.events.Event.TheVariants as event
use Rattle.core_machine.specs.declared.events.Found.TheVariants as finds
use Rattle.heap_rule.specs.Asks.{MayFill}
use Rattle.heap_rule.specs.Lore.{nothing_learned}
use Rattle.heap_rule.specs.Steps.{Picks}
use Rattle.mutator_events.specs.Values.{field_at}
use Rattle.mutator_seat.specs.Bound.{Bound, takes_with}
use Rattle.mutator_seat.proofs.mutator.Mutator.fill.Goals as goal

pub fill-requires-clause-may : goal.fill-requires-clause-may
fill-requires-clause-may g c =
    subst (λ (m : Bound _). MayFill m.seat.me c.args.place c.args.field
    (field_at m.seat.me.own.held c.args.value)) (sym c.self.view_is) c.requires.may

pub fill-requires-clause-rule : goal.fill-requires-clause-rule
fill-requires-clause-rule g c =
    subst (λ (m : Bound _). Picks g.P.Keeping.holds g.P.Keeping.fixed g.C.Choice.next m.seat.me
    (event.Fill m.seat.me.number c.args.place c.args.field
    (field_at m.seat.me.own.held c.args.value))) (sym c.self.view_is) c.requires.rule

pub returns : goal.returns
returns g c = record {
  told = c.fill.ensures.told
      ∙ ap (λ (m : Bound _). takes_with m (event.Fill m.seat.me.number c.args.place c.args.field
      (field_at m.seat.me.own.held c.args.value)) finds.Stored
      (g.C.Choice.next nothing_learned finds.Stored m.seat.me.pass)) c.self.view_is;
}
