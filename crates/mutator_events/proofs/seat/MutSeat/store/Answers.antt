use Rattle.std.proofs.Common.{◌<◌, ℕ, Some, length, refl, sym, ap, subst, arith}
use Rattle.core_machine.specs.declared.events.Found.TheVariants as finds
use Rattle.core_machine.specs.Table.{FieldOf, index_of}
use Rattle.heap_rule.specs.Asks.{MayStore, target}
use Rattle.heap_rule.specs.Steps.{Picks}
use Rattle.heap_table.specs.Seats.{SeatView}
use Rattle.mutator_events.specs.Events.{AtEvent, store_of}
use Rattle.mutator_events.specs.Values.{field_at}
use Rattle.mutator_events.proofs.Begun.{begun_goes, begun_in, none_begun}
use Rattle.mutator_events.proofs.Calls.{after_store}
use Rattle.mutator_events.proofs.Calls.{same_within}
use Rattle.mutator_events.proofs.Calls.{within, without}
use Rattle.mutator_events.proofs.Owed.{store_owed, store_picked}
use Rattle.mutator_events.proofs.seat.MutSeat.store.Goals as goal

pub field_at-word-requires-clause-there : goal.field_at-word-requires-clause-there
field_at-word-requires-clause-there g c =
    let may = within (λ v. MayStore g.P.Keeping.fixed v (field_at v.own.held c.args.new))
    c.self.view_is c.requires.may in
    let seat = c.self.inside in
    subst (λ (s : SeatView _). seat.begun_place < length s.me.own.held) c.self.view_is
    (c.self.invariant.2.there may.begun)

pub field_at-word-requires-clause-field : goal.field_at-word-requires-clause-field
field_at-word-requires-clause-field g c =
    let may = within (λ v. MayStore g.P.Keeping.fixed v (field_at v.own.held c.args.new))
    c.self.view_is c.requires.may in
    let le = c.self.invariant.2.payload may.begun in
    omega (arith, le)

pub mutator_store-requires-clause-made : goal.mutator_store-requires-clause-made
mutator_store-requires-clause-made g c =
    ap (λ (n : ℕ). Some n) (sym c.self.invariant.0.number_is)

pub mutator_store-requires-clause-kind : goal.mutator_store-requires-clause-kind
mutator_store-requires-clause-kind g c =
    let may = within (λ v. MayStore g.P.Keeping.fixed v (field_at v.own.held c.args.new))
    c.self.view_is c.requires.may in
    let seat = c.self.inside in
    let goes = begun_goes seat.seat.me.own seat.begun_place seat.begun_field seat.inside
    c.self.invariant.2 may.begun in
    store_owed g.P.Keeping.fixed c.self.invariant.0 seat.begun_place seat.begun_field
    (same_within (λ v. field_at v.own.held c.args.new) c.self.view_is
    c.stands_for-new.ensures.field)
    goes.0 goes.1
    (sym (same_within (λ v. index_of v.shape.mutators
    (FieldOf (target v seat.begun_place) seat.begun_field))
    c.self.view_is c.field_at-word.ensures.word))
    c.pack_field-written.ensures.word may

pub mutator_store-requires-clause-rule : goal.mutator_store-requires-clause-rule
mutator_store-requires-clause-rule g c =
    store_picked g.P.Keeping.fixed c.self.invariant.0 g.P.Keeping.holds g.P.Keeping.shrinks
    g.C.Choice.next
    (same_within (λ v. field_at v.own.held c.args.new) c.self.view_is
    c.stands_for-new.ensures.field)
    (within (λ v. Picks g.P.Keeping.holds g.P.Keeping.fixed g.C.Choice.next v
    (store_of v c.args.new)) c.self.view_is c.requires.rule)

pub invariant_of-self : goal.invariant_of-self
invariant_of-self g c =
    let after = after_store c.self.invariant.0
    (same_within (λ v. field_at v.own.held c.args.new) c.self.view_is
    c.stands_for-new.ensures.field) c.mutator_store.ensures.step in (
      after.keeps,
      c.self.invariant.1,
      begun_in after.event.new (none_begun refl),
    )

pub returns-clause-made : goal.returns-clause-made
returns-clause-made g c =
    without (λ v. AtEvent g.P.Keeping.holds g.P.Keeping.fixed v (store_of v c.args.new)
    g.C.Choice.next finds.Stored c.mutator_store.new.seat.me) c.self.view_is
    (after_store c.self.invariant.0
    (same_within (λ v. field_at v.own.held c.args.new) c.self.view_is
    c.stands_for-new.ensures.field) c.mutator_store.ensures.step).event
