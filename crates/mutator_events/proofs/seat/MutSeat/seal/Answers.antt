use Rattle.std.proofs.Common.{◌∙◌, ℕ}
use Rattle.std.proofs.Common.{Some, refl, sym, ap}
use Rattle.cell_words.specs.Field.{pack_field_of}
use Rattle.cell_words.specs.declared.fields.Field.{Field}
use Rattle.core_machine.specs.declared.events.Event.TheVariants as event
use Rattle.core_machine.specs.declared.events.Found.TheVariants as finds
use Rattle.core_machine.specs.Table.{FieldOf, index_of}
use Rattle.heap_rule.specs.Asks.{MaySeal, target}
use Rattle.mutator_events.proofs.Begun.{begun_in}
use Rattle.mutator_events.proofs.Calls.{after_seal}
use Rattle.mutator_events.proofs.Calls.{same_within, seat_told}
use Rattle.mutator_events.proofs.Calls.{within}
use Rattle.mutator_events.proofs.Owed.{seal_owed, still_as}
use Rattle.mutator_events.proofs.seat.MutSeat.seal.Goals as goal

pub mutator_store-requires-clause-made : goal.mutator_store-requires-clause-made
mutator_store-requires-clause-made g c =
    ap (λ (n : ℕ). Some n) (sym c.self.invariant.0.number_is)

pub mutator_store-requires-clause-kind : goal.mutator_store-requires-clause-kind
mutator_store-requires-clause-kind g c =
    let may = within (λ v. MaySeal v c.args.place c.args.kind) c.self.view_is c.requires.may in
    seal_owed g.P.Keeping.fixed c.self.invariant.0 c.args.place c.args.kind
    (sym (same_within (λ v. index_of v.shape.mutators (FieldOf (target v c.args.place) 5))
    c.self.view_is c.field_at-word.ensures.word))
    (c.pack_field-new.ensures.word
    ∙ ap (λ (x : Field). pack_field_of x) c.kind_field-field.ensures.field)
    may

pub mutator_store-requires-clause-rule : goal.mutator_store-requires-clause-rule
mutator_store-requires-clause-rule g c =
    still_as g.P.Keeping.fixed c.self.invariant.0 g.P.Keeping.holds g.P.Keeping.shrinks
    (event.Seal c.self.inside.number c.args.place c.args.kind) (λ s l. refl)

pub invariant_of-self : goal.invariant_of-self
invariant_of-self g c = (
  (after_seal c.self.invariant.0 c.args.place c.args.kind c.mutator_store.ensures.step).keeps,
  c.self.invariant.1,
  begun_in (after_seal c.self.invariant.0 c.args.place c.args.kind
      c.mutator_store.ensures.step).view c.self.invariant.2,
)

pub returns : goal.returns
returns g c =
    record {
      told = seat_told c.mutator_store.new.seat (λ v. event.Seal v.number c.args.place c.args.kind)
          (λ v. finds.Stored) c.self.view_is c.mutator_store.ensures.same
          (after_seal c.self.invariant.0 c.args.place c.args.kind c.mutator_store.ensures.step).view;
    }
