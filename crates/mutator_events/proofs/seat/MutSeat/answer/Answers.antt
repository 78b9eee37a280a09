use Rattle.std.proofs.Common.{ℕ}
use Rattle.std.proofs.Common.{None, Some, refl, sym, ap, subst}
use Rattle.cell_words.specs.declared.presences.Status.{Status}
use Rattle.core_machine.specs.declared.events.Event.TheVariants as event
use Rattle.core_machine.specs.declared.events.Found.TheVariants as finds
use Rattle.heap_rule.specs.Asks.{MayAnswer}
use Rattle.mutator_events.specs.Seats.{IsMutator}
use Rattle.mutator_events.proofs.Begun.{begun_in, none_begun}
use Rattle.mutator_events.proofs.Calls.{after_answer}
use Rattle.mutator_events.proofs.Calls.{seat_told}
use Rattle.mutator_events.proofs.Calls.{within}
use Rattle.mutator_events.proofs.Owed.{answer_owed}
use Rattle.mutator_events.proofs.Owed.{still_as}
use Rattle.mutator_events.proofs.seat.MutSeat.answer.Goals as goal

pub mutator_store-requires-clause-made : goal.mutator_store-requires-clause-made
mutator_store-requires-clause-made g c =
    ap (λ (n : ℕ). Some n) (sym c.self.invariant.0.number_is)

pub mutator_store-requires-clause-kind : goal.mutator_store-requires-clause-kind
mutator_store-requires-clause-kind g c =
    let may = within (λ v. MayAnswer v) c.self.view_is c.requires.may in
    answer_owed g.P.Keeping.fixed c.self.invariant.0 c.status_word-word.ensures.word
    c.next_status-status.ensures.status c.pack_presence-new.ensures.word may

pub mutator_store-requires-clause-rule : goal.mutator_store-requires-clause-rule
mutator_store-requires-clause-rule g c =
    still_as g.P.Keeping.fixed c.self.invariant.0 g.P.Keeping.holds g.P.Keeping.shrinks
    (event.Answer c.self.inside.number) (λ s l. refl)

pub invariant_of-self : goal.invariant_of-self
invariant_of-self g c =
    let seat = c.self.inside in (
      subst (λ (status : Status). IsMutator c.mutator_store.new.seat.me seat.number seat.room
          seat.held.items seat.looked seat.inside status seat.claims) (sym c.next_status-status.ensures.status)
          (after_answer c.self.invariant.0 c.mutator_store.ensures.step).keeps,
      c.self.invariant.1,
      begun_in (after_answer c.self.invariant.0 c.mutator_store.ensures.step).view
          (none_begun refl),
    )

pub returns : goal.returns
returns g c =
    record {
      told = seat_told c.mutator_store.new.seat (λ v. event.Answer v.number)
          (λ v. finds.Stored) c.self.view_is c.mutator_store.ensures.same
          (after_answer c.self.invariant.0 c.mutator_store.ensures.step).view;
    }
