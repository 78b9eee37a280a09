use Rattle.std.proofs.Common.{sym, subst}
use Rattle.core_machine.specs.declared.events.Event.TheVariants as event
use Rattle.heap_rule.specs.Steps.{Picks}
use Rattle.mutator_seat.specs.Bound.{Bound}
use Rattle.mutator_seat.proofs.mutator.Mutator.read.Goals as goal

pub read-requires-clause-rule : goal.read-requires-clause-rule
read-requires-clause-rule g c =
    subst (λ (m : Bound _). Picks g.P.Keeping.holds g.P.Keeping.fixed g.C.Choice.next m.seat.me
    (event.Read m.seat.me.number c.args.place c.args.field))
    (sym c.self.view_is) c.requires.rule
