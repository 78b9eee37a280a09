use Rattle.std.proofs.Common.{ℕ}
use Rattle.std.proofs.Common.{Some, refl, sym, ap}
use Rattle.core_machine.specs.declared.events.Event.TheVariants as event
use Rattle.core_machine.specs.declared.events.Found.TheVariants as finds
use Rattle.core_machine.specs.Table.{ColourOf, index_of}
use Rattle.heap_rule.specs.Asks.{MayMark, target}
use Rattle.mutator_events.proofs.Begun.{begun_in, marked_begun}
use Rattle.mutator_events.proofs.Calls.{after_mark}
use Rattle.mutator_events.proofs.Calls.{same_within, seat_told}
use Rattle.mutator_events.proofs.Calls.{within}
use Rattle.mutator_events.proofs.Owed.{mark_owed}
use Rattle.mutator_events.proofs.Owed.{still_as}
use Rattle.mutator_events.proofs.seat.MutSeat.mark.Goals as goal

pub mutator_exchange-requires-clause-made : goal.mutator_exchange-requires-clause-made
mutator_exchange-requires-clause-made g c =
    ap (λ (n : ℕ). Some n) (sym c.self.invariant.0.number_is)

pub mutator_exchange-requires-clause-kind : goal.mutator_exchange-requires-clause-kind
mutator_exchange-requires-clause-kind g c =
    let may = within (λ v. MayMark v c.args.place) c.self.view_is c.requires.may in
    mark_owed g.P.Keeping.fixed c.self.invariant.0 c.args.place
    (sym (same_within (λ v. index_of v.shape.mutators (ColourOf (target v c.args.place)))
    c.self.view_is c.colour_at-word.ensures.word))
    c.pack_colour-white.ensures.word c.pack_colour-gray.ensures.word may

pub mutator_exchange-requires-clause-rule : goal.mutator_exchange-requires-clause-rule
mutator_exchange-requires-clause-rule g c =
    still_as g.P.Keeping.fixed c.self.invariant.0 g.P.Keeping.holds g.P.Keeping.shrinks
    (event.Mark c.self.inside.number c.args.place) (λ s l. refl)

pub invariant_of-self : goal.invariant_of-self
invariant_of-self g c = (
  (after_mark c.self.invariant.0 c.args.place c.mutator_exchange.ensures.step).1.keeps,
  c.self.invariant.1,
  begun_in (after_mark c.self.invariant.0 c.args.place c.mutator_exchange.ensures.step).1.view
      (marked_begun c.self.invariant.2 (target c.self.inside.seat.me c.args.place)),
)

pub returns : goal.returns
returns g c =
    let after = after_mark c.self.invariant.0 c.args.place c.mutator_exchange.ensures.step in
    record {
      told = (
        after.0,
        seat_told c.mutator_exchange.new.seat (λ v. event.Mark v.number c.args.place)
            (λ v. finds.Colour after.0) c.self.view_is c.mutator_exchange.ensures.same
            after.1.view,
      );
    }
