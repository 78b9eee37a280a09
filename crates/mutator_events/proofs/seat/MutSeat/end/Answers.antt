use Rattle.std.proofs.Common.{◌≡◌, ℕ, true, false, List}
use Rattle.std.proofs.Common.{None, Some, refl, sym, ap, subst, arith}
use Rattle.core_machine.specs.declared.events.Event.TheVariants as event
use Rattle.core_machine.specs.declared.events.Found.TheVariants as finds
use Rattle.core_machine.specs.WordOperations.{KeepBits, all_but_inside}
use Rattle.heap_rule.proofs.Owing.{owes_end}
use Rattle.mutator_events.specs.Seats.{IsMutator}
use Rattle.mutator_events.proofs.Begun.{begun_in, none_begun}
use Rattle.mutator_events.proofs.Calls.{after_end}
use Rattle.mutator_events.proofs.Calls.{seat_told}
use Rattle.mutator_events.proofs.Calls.{within}
use Rattle.mutator_events.proofs.Owed.{status_owed, still_as}
use Rattle.mutator_events.proofs.seat.MutSeat.end.Goals as goal

pub mutator_keep_bits-requires-clause-made : goal.mutator_keep_bits-requires-clause-made
mutator_keep_bits-requires-clause-made g c =
    ap (λ (n : ℕ). Some n) (sym c.self.invariant.0.number_is)

pub mutator_keep_bits-requires-clause-kind : goal.mutator_keep_bits-requires-clause-kind
mutator_keep_bits-requires-clause-kind g c =
    let may = within (λ v. v.presence.inside ≡ true) c.self.view_is c.requires.inside in
    status_owed g.P.Keeping.fixed c.self.invariant.0 (λ n. event.End n) (KeepBits all_but_inside)
    c.status_word-word.ensures.word
    (λ s l mine. owes_end g.P.Keeping.fixed c.self.inside.seat.me s l mine may)

pub mutator_keep_bits-requires-clause-rule : goal.mutator_keep_bits-requires-clause-rule
mutator_keep_bits-requires-clause-rule g c =
    still_as g.P.Keeping.fixed c.self.invariant.0 g.P.Keeping.holds g.P.Keeping.shrinks
    (event.End c.self.inside.number) (λ s l. refl)

pub invariant_of-self : goal.invariant_of-self
invariant_of-self g c =
    let may = within (λ v. v.presence.inside ≡ true) c.self.view_is c.requires.inside in
    let seat = c.self.inside in (
      subst (λ (cells : List ℕ). IsMutator c.mutator_keep_bits.new.seat.me seat.number seat.room
          cells seat.looked false
          seat.status seat.claims) (sym c.clear.ensures.items)
          (after_end c.self.invariant.0 may c.mutator_keep_bits.ensures.step).keeps,
      omega (arith, c.self.invariant.1, c.clear.ensures.capacity),
      begun_in (after_end c.self.invariant.0 may c.mutator_keep_bits.ensures.step).view
          (none_begun refl),
    )

pub returns : goal.returns
returns g c =
    let may = within (λ v. v.presence.inside ≡ true) c.self.view_is c.requires.inside in
    record {
      told = seat_told c.mutator_keep_bits.new.seat (λ v. event.End v.number)
          (λ v. finds.Presence v.presence) c.self.view_is c.mutator_keep_bits.ensures.same
          (after_end c.self.invariant.0 may c.mutator_keep_bits.ensures.step).view;
    }
