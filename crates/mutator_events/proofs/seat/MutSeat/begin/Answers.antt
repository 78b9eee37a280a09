use Rattle.std.proofs.Common.{◌≡◌, ◌∙◌, ℕ, true, List, [], ◌∷◌, ◌++◌}
use Rattle.std.proofs.Common.{None, Some, refl, sym, ap, subst, arith}
use Rattle.core_machine.specs.declared.events.Event.TheVariants as event
use Rattle.core_machine.specs.declared.events.Found.TheVariants as finds
use Rattle.core_machine.specs.WordOperations.{SetBits, inside_bit}
use Rattle.heap_rule.specs.Asks.{MayComeIn}
use Rattle.heap_rule.proofs.Owing.{owes_begin}
use Rattle.mutator_events.specs.Seats.{IsMutator}
use Rattle.mutator_events.proofs.Begun.{begun_in, none_begun}
use Rattle.mutator_events.proofs.Calls.{after_begin}
use Rattle.mutator_events.proofs.Calls.{seat_told}
use Rattle.mutator_events.proofs.Calls.{within}
use Rattle.mutator_events.proofs.Founds.{begin_word}
use Rattle.mutator_events.proofs.Owed.{status_owed, still_as}
use Rattle.mutator_events.proofs.seat.MutSeat.begin.Goals as goal

pub mutator_set_bits-found-requires-clause-made : goal.mutator_set_bits-found-requires-clause-made
mutator_set_bits-found-requires-clause-made g c =
    ap (λ (n : ℕ). Some n) (sym c.self.invariant.0.number_is)

pub mutator_set_bits-found-requires-clause-kind : goal.mutator_set_bits-found-requires-clause-kind
mutator_set_bits-found-requires-clause-kind g c =
    let may = within (λ v. MayComeIn v) c.self.view_is c.requires.may in
    status_owed g.P.Keeping.fixed c.self.invariant.0 (λ n. event.Begin n) (SetBits inside_bit)
    c.status_word-word.ensures.word
    (λ s l mine. owes_begin g.P.Keeping.fixed c.self.inside.seat.me s l mine may)

pub mutator_set_bits-found-requires-clause-rule : goal.mutator_set_bits-found-requires-clause-rule
mutator_set_bits-found-requires-clause-rule g c =
    still_as g.P.Keeping.fixed c.self.invariant.0 g.P.Keeping.holds g.P.Keeping.shrinks
    (event.Begin c.self.inside.number) (λ s l. refl)

pub presence_of-presence-requires : goal.presence_of-presence-requires
presence_of-presence-requires g c =
    begin_word c.mutator_set_bits-found.ensures.step

pub invariant_of-self : goal.invariant_of-self
invariant_of-self g c =
    let may = within (λ v. MayComeIn v) c.self.view_is c.requires.may in
    let seat = c.self.inside in
    let after = after_begin c.self.invariant.0 c.presence_of-presence.result
    c.presence_of-presence.ensures.presence may c.mutator_set_bits-found.ensures.step in
    let items : c.push_reserved.new.self.items ≡ 0 ∷ [] = c.push_reserved.ensures.items
    ∙ ap (λ (cells : List ℕ). cells ++ 0 ∷ []) c.clear.ensures.items in (
      subst (λ (cells : List ℕ). IsMutator c.mutator_set_bits-found.new.seat.me seat.number
          seat.room cells seat.looked true
          c.presence_of-presence.result.status seat.claims) (sym items) after.keeps,
      omega (arith, c.self.invariant.1, c.clear.ensures.capacity, c.push_reserved.ensures.capacity),
      begun_in after.view (none_begun
          (c.self.invariant.2.idle (sym c.self.invariant.0.presence.inside_is ∙ may.out))),
    )

pub returns : goal.returns
returns g c =
    let may = within (λ v. MayComeIn v) c.self.view_is c.requires.may in
    record {
      told = (
        c.presence_of-presence.result.status,
        seat_told c.mutator_set_bits-found.new.seat
            (λ v. event.Begin v.number)
            (λ v. finds.Presence (record v.presence { status = c.presence_of-presence.result.status }))
            c.self.view_is c.mutator_set_bits-found.ensures.same
            (after_begin c.self.invariant.0 c.presence_of-presence.result
            c.presence_of-presence.ensures.presence may
            c.mutator_set_bits-found.ensures.step).view,
      );
    }
