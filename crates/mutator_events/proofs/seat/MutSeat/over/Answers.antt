use Rattle.std.proofs.Common.{ℕ}
use Rattle.std.proofs.Common.{Some, refl, sym, ap}
use Rattle.core_machine.specs.declared.events.Event.TheVariants as event
use Rattle.core_machine.specs.declared.events.Found.TheVariants as finds
use Rattle.core_machine.specs.WordOperations.{SetBits}
use Rattle.core_machine.specs.WordOperations.{over_bit}
use Rattle.heap_rule.specs.Asks.{MayComeIn}
use Rattle.heap_rule.proofs.Owing.{owes_over}
use Rattle.mutator_events.proofs.Begun.{begun_in}
use Rattle.mutator_events.proofs.Calls.{after_over}
use Rattle.mutator_events.proofs.Calls.{seat_told}
use Rattle.mutator_events.proofs.Calls.{within}
use Rattle.mutator_events.proofs.Owed.{status_owed, still_as}
use Rattle.mutator_events.proofs.seat.MutSeat.over.Goals as goal

pub mutator_set_bits-requires-clause-made : goal.mutator_set_bits-requires-clause-made
mutator_set_bits-requires-clause-made g c =
    ap (λ (n : ℕ). Some n) (sym c.self.invariant.0.number_is)

pub mutator_set_bits-requires-clause-kind : goal.mutator_set_bits-requires-clause-kind
mutator_set_bits-requires-clause-kind g c =
    let may = within (λ v. MayComeIn v) c.self.view_is c.requires.may in
    status_owed g.P.Keeping.fixed c.self.invariant.0 (λ n. event.Over n) (SetBits over_bit)
    c.status_word-word.ensures.word
    (λ s l mine. owes_over g.P.Keeping.fixed c.self.inside.seat.me s l mine may)

pub mutator_set_bits-requires-clause-rule : goal.mutator_set_bits-requires-clause-rule
mutator_set_bits-requires-clause-rule g c =
    still_as g.P.Keeping.fixed c.self.invariant.0 g.P.Keeping.holds g.P.Keeping.shrinks
    (event.Over c.self.inside.number) (λ s l. refl)

pub invariant_of-self : goal.invariant_of-self
invariant_of-self g c =
    let may = within (λ v. MayComeIn v) c.self.view_is c.requires.may in (
      (after_over c.self.invariant.0 may c.mutator_set_bits.ensures.step).1.keeps,
      c.self.invariant.1,
      begun_in (after_over c.self.invariant.0 may c.mutator_set_bits.ensures.step).1.view
          c.self.invariant.2,
    )

pub returns : goal.returns
returns g c =
    let may = within (λ v. MayComeIn v) c.self.view_is c.requires.may in
    let after = after_over c.self.invariant.0 may c.mutator_set_bits.ensures.step in
    record {
      told = (
        after.0,
        seat_told c.mutator_set_bits.new.seat (λ v. event.Over v.number)
            (λ v. finds.Presence (record v.presence { status = after.0 })) c.self.view_is
            c.mutator_set_bits.ensures.same
            after.1.view,
      );
    }
