use Rattle.std.proofs.Common.{◌∙◌, ℕ, List}
use Rattle.std.proofs.Common.{Some, length, refl, sym, ap, subst, arith}
use Rattle.core_machine.specs.declared.events.Event.TheVariants as event
use Rattle.core_machine.specs.declared.events.Found.TheVariants as finds
use Rattle.core_machine.specs.Table.{FieldOf, index_of}
use Rattle.core_machine.specs.WordOperations.{Load}
use Rattle.heap_rule.specs.Asks.{MayFetch, target}
use Rattle.heap_rule.specs.Steps.{same_pass}
use Rattle.heap_rule.proofs.Owing.{owes_fetch}
use Rattle.heap_table.specs.Seats.{SeatView}
use Rattle.mutator_events.specs.Events.{AtEvent}
use Rattle.mutator_events.specs.Seats.{IsMutator}
use Rattle.mutator_events.specs.Values.{value_found}
use Rattle.mutator_events.proofs.Begun.{begun_in, fetched_begun}
use Rattle.mutator_events.proofs.Calls.{after_fetch}
use Rattle.mutator_events.proofs.Calls.{same_within}
use Rattle.mutator_events.proofs.Calls.{within, without}
use Rattle.mutator_events.proofs.Founds.{fetch_word}
use Rattle.mutator_events.proofs.HeldCells.{held_many}
use Rattle.mutator_events.proofs.Owed.{owed_as, still_as}
use Rattle.mutator_events.proofs.seat.MutSeat.fetch.Goals as goal

pub mutator_load-number-requires-clause-made : goal.mutator_load-number-requires-clause-made
mutator_load-number-requires-clause-made g c =
    ap (λ (n : ℕ). Some n) (sym c.self.invariant.0.number_is)

pub mutator_load-number-requires-clause-kind : goal.mutator_load-number-requires-clause-kind
mutator_load-number-requires-clause-kind g c =
    let may = within (λ v. MayFetch v c.args.place c.args.field) c.self.view_is c.requires.may in
    let me = c.self.inside.seat.me in
    owed_as g.P.Keeping.fixed c.self.invariant.0 (λ n. event.Fetch n c.args.place c.args.field)
    (FieldOf (target me c.args.place) c.args.field) Load Load
    (sym (same_within (λ v. index_of v.shape.mutators
    (FieldOf (target v c.args.place) c.args.field))
    c.self.view_is c.field_at-word.ensures.word))
    refl (λ s l mine. owes_fetch g.P.Keeping.fixed me s l mine c.args.place c.args.field may)

pub mutator_load-number-requires-clause-rule : goal.mutator_load-number-requires-clause-rule
mutator_load-number-requires-clause-rule g c =
    still_as g.P.Keeping.fixed c.self.invariant.0 g.P.Keeping.holds g.P.Keeping.shrinks
    (event.Fetch c.self.inside.number c.args.place c.args.field) (λ s l. refl)

pub field_of-found-requires : goal.field_of-found-requires
field_of-found-requires g c =
    fetch_word c.mutator_load-number.ensures.step

pub invariant_of-self : goal.invariant_of-self
invariant_of-self g c =
    let may = within (λ v. MayFetch v c.args.place c.args.field) c.self.view_is c.requires.may in
    let seat = c.self.inside in
    let after = after_fetch c.self.invariant.0 c.args.place c.args.field c.field_of-found.result
    c.field_of-found.ensures.field may c.mutator_load-number.ensures.step in (
      subst (λ (cells : List ℕ). IsMutator c.mutator_load-number.new.seat.me seat.number seat.room
          cells seat.looked seat.inside seat.status seat.claims) (sym c.hold_found.ensures.cells)
          after.keeps,
      omega (arith, c.self.invariant.1, c.hold_found.ensures.capacity),
      begun_in after.event.new (fetched_begun seat.seat.me.own c.args.place c.args.field
          c.field_of-found.result seat.inside may.there may.payload
          (sym c.self.invariant.0.presence.inside_is ∙ may.inside)),
    )

pub returns-clause-told : goal.returns-clause-told
returns-clause-told g c =
    let may = within (λ v. MayFetch v c.args.place c.args.field) c.self.view_is c.requires.may in
    let many = held_many c.self.inside.seat.me.own.held c.self.inside.held.items
    c.self.invariant.0.own.held_is
    ∙ ap (λ (s : SeatView _). length s.me.own.held) c.self.view_is in (
      c.field_of-found.result,
      c.hold_found.ensures.value ∙ ap (λ (n : ℕ). value_found n c.field_of-found.result) many,
      without (λ v. AtEvent g.P.Keeping.holds g.P.Keeping.fixed v
          (event.Fetch v.number c.args.place c.args.field) same_pass
          (finds.Field c.field_of-found.result)
          c.mutator_load-number.new.seat.me) c.self.view_is
          (after_fetch c.self.invariant.0 c.args.place c.args.field c.field_of-found.result
          c.field_of-found.ensures.field may c.mutator_load-number.ensures.step).event,
    )
