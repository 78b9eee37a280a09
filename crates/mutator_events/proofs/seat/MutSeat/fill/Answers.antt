use Rattle.std.proofs.Common.{ℕ}
use Rattle.std.proofs.Common.{Some, sym, ap}
use Rattle.core_machine.specs.declared.events.Found.TheVariants as finds
use Rattle.core_machine.specs.Table.{FieldOf, index_of}
use Rattle.heap_rule.specs.Asks.{MayFill}
use Rattle.heap_rule.specs.Asks.{target}
use Rattle.heap_rule.specs.Lore.{nothing_learned}
use Rattle.heap_rule.specs.Steps.{Picks}
use Rattle.mutator_events.specs.Events.{fill_of}
use Rattle.mutator_events.specs.Values.{field_at}
use Rattle.mutator_events.proofs.Begun.{begun_in}
use Rattle.mutator_events.proofs.Calls.{after_fill}
use Rattle.mutator_events.proofs.Calls.{same_within, seat_told_with}
use Rattle.mutator_events.proofs.Calls.{within}
use Rattle.mutator_events.proofs.Owed.{fill_owed, fill_picked}
use Rattle.mutator_events.proofs.seat.MutSeat.fill.Goals as goal

pub mutator_store-requires-clause-made : goal.mutator_store-requires-clause-made
mutator_store-requires-clause-made g c =
    ap (λ (n : ℕ). Some n) (sym c.self.invariant.0.number_is)

pub mutator_store-requires-clause-kind : goal.mutator_store-requires-clause-kind
mutator_store-requires-clause-kind g c =
    let may = within (λ v. MayFill v c.args.place c.args.field (field_at v.own.held c.args.value))
    c.self.view_is c.requires.may in
    fill_owed g.P.Keeping.fixed c.self.invariant.0 c.args.place c.args.field
    (same_within (λ v. field_at v.own.held c.args.value) c.self.view_is
    c.stands_for-value.ensures.field)
    (sym (same_within (λ v. index_of v.shape.mutators
    (FieldOf (target v c.args.place) c.args.field))
    c.self.view_is c.field_at-word.ensures.word))
    c.pack_field-new.ensures.word may

pub mutator_store-requires-clause-rule : goal.mutator_store-requires-clause-rule
mutator_store-requires-clause-rule g c =
    fill_picked g.P.Keeping.fixed c.self.invariant.0 g.P.Keeping.holds g.P.Keeping.shrinks
    g.C.Choice.next c.args.place c.args.field
    (same_within (λ v. field_at v.own.held c.args.value) c.self.view_is
    c.stands_for-value.ensures.field)
    (within (λ v. Picks g.P.Keeping.holds g.P.Keeping.fixed g.C.Choice.next v
    (fill_of v c.args.place c.args.field c.args.value)) c.self.view_is c.requires.rule)

pub invariant_of-self : goal.invariant_of-self
invariant_of-self g c =
    let after = after_fill c.self.invariant.0 c.args.place c.args.field
    (same_within (λ v. field_at v.own.held c.args.value) c.self.view_is
    c.stands_for-value.ensures.field) c.mutator_store.ensures.step in (
      after.keeps,
      c.self.invariant.1,
      begun_in after.event.new c.self.invariant.2,
    )

pub returns : goal.returns
returns g c =
    record {
      told = seat_told_with c.mutator_store.new.seat
          (λ v. fill_of v c.args.place c.args.field c.args.value)
          finds.Stored (λ p. g.C.Choice.next nothing_learned finds.Stored p) c.self.view_is
          c.mutator_store.ensures.same (after_fill c.self.invariant.0 c.args.place c.args.field
          (same_within (λ v. field_at v.own.held c.args.value) c.self.view_is
          c.stands_for-value.ensures.field)
          c.mutator_store.ensures.step).event.new;
    }
