use Rattle.std.proofs.Common.{◌∙◌, ℕ}
use Rattle.std.proofs.Common.{Some, refl, sym, ap, subst}
use Rattle.cell_words.specs.declared.fields.Field.{Field}
use Rattle.core_machine.specs.declared.events.Found.TheVariants as finds
use Rattle.core_machine.specs.Table.{FieldOf, index_of}
use Rattle.core_machine.specs.Words.{same_field}
use Rattle.heap_rule.specs.Asks.{MayWrite, target}
use Rattle.heap_rule.specs.Steps.{Picks}
use Rattle.mutator_events.specs.Events.{AtEvent, write_of}
use Rattle.mutator_events.specs.Values.{field_at}
use Rattle.mutator_events.proofs.Begun.{begun_in, none_begun}
use Rattle.mutator_events.proofs.Calls.{after_write}
use Rattle.mutator_events.proofs.Calls.{same_within}
use Rattle.mutator_events.proofs.Calls.{within, without}
use Rattle.mutator_events.proofs.Founds.{other_field}
use Rattle.mutator_events.proofs.Founds.{write_word}
use Rattle.mutator_events.proofs.Owed.{write_owed, write_picked}
use Rattle.mutator_events.proofs.seat.MutSeat.write.Goals.{then-number-expected}
use Rattle.mutator_events.proofs.seat.MutSeat.write.Goals.{else-number-expected}
use Rattle.mutator_events.proofs.seat.MutSeat.write.Goals as goal

pub mutator_exchange-number-requires-clause-made : goal.mutator_exchange-number-requires-clause-made
mutator_exchange-number-requires-clause-made g c =
    ap (λ (n : ℕ). Some n) (sym c.self.invariant.0.number_is)

pub mutator_exchange-number-requires-clause-kind : goal.mutator_exchange-number-requires-clause-kind
mutator_exchange-number-requires-clause-kind g c =
    let may = within (λ v. MayWrite g.P.Keeping.fixed v c.args.place c.args.field
    (field_at v.own.held c.args.old) (field_at v.own.held c.args.new)) c.self.view_is
    c.requires.may in
    write_owed g.P.Keeping.fixed c.self.invariant.0 c.args.place c.args.field
    (same_within (λ v. field_at v.own.held c.args.old) c.self.view_is
    c.stands_for-old.ensures.field)
    (same_within (λ v. field_at v.own.held c.args.new) c.self.view_is
    c.stands_for-new.ensures.field)
    (sym (same_within (λ v. index_of v.shape.mutators
    (FieldOf (target v c.args.place) c.args.field))
    c.self.view_is c.field_at-word.ensures.word))
    c.pack_field-expected.ensures.word c.pack_field-written.ensures.word may

pub mutator_exchange-number-requires-clause-rule : goal.mutator_exchange-number-requires-clause-rule
mutator_exchange-number-requires-clause-rule g c =
    write_picked g.P.Keeping.fixed c.self.invariant.0 g.P.Keeping.holds g.P.Keeping.shrinks
    g.C.Choice.next c.args.place c.args.field
    (same_within (λ v. field_at v.own.held c.args.old) c.self.view_is
    c.stands_for-old.ensures.field)
    (same_within (λ v. field_at v.own.held c.args.new) c.self.view_is
    c.stands_for-new.ensures.field)
    (within (λ v. Picks g.P.Keeping.holds g.P.Keeping.fixed g.C.Choice.next v
    (write_of v c.args.place c.args.field c.args.old c.args.new)) c.self.view_is c.requires.rule)

pub field_of-found-requires : goal.field_of-found-requires
field_of-found-requires g c =
    write_word c.mutator_exchange-number.ensures.step

pub invariant_of-self : goal.invariant_of-self
invariant_of-self g c =
    let after = after_write c.self.invariant.0 c.args.place c.args.field c.field_of-found.result
    (same_within (λ v. field_at v.own.held c.args.old) c.self.view_is
    c.stands_for-old.ensures.field)
    (same_within (λ v. field_at v.own.held c.args.new) c.self.view_is
    c.stands_for-new.ensures.field)
    c.field_of-found.ensures.field c.mutator_exchange-number.ensures.step in (
      after.keeps,
      c.self.invariant.1,
      begun_in after.event.new (none_begun refl),
    )

pub returns-clause-made : goal.returns-clause-made
returns-clause-made g c =
    let here = without (λ v. AtEvent g.P.Keeping.holds g.P.Keeping.fixed v
    (write_of v c.args.place c.args.field c.args.old c.args.new) g.C.Choice.next
    (finds.Field c.field_of-found.result) c.mutator_exchange-number.new.seat.me) c.self.view_is
    (after_write c.self.invariant.0 c.args.place c.args.field c.field_of-found.result
    (same_within (λ v. field_at v.own.held c.args.old) c.self.view_is
    c.stands_for-old.ensures.field)
    (same_within (λ v. field_at v.own.held c.args.new) c.self.view_is
    c.stands_for-new.ensures.field)
    c.field_of-found.ensures.field c.mutator_exchange-number.ensures.step).event in
    elim c.if-number-expected.branch [
      | then-number-expected w ↦
          rw w.result-is
          (subst (λ (x : Field). AtEvent g.P.Keeping.holds g.P.Keeping.fixed c.args.self.now.me
          (write_of c.args.self.now.me c.args.place c.args.field c.args.old c.args.new)
          g.C.Choice.next (finds.Field x) c.mutator_exchange-number.new.seat.me)
          (c.field_of-found.ensures.field c.stands_for-old.result c.stands_for-old.ensures.valid
          (sym (w.if-number-expected.true ∙ c.pack_field-expected.ensures.word))
          ∙ c.stands_for-old.ensures.field) here)
      | else-number-expected w ↦ rw w.result-is tt
    ]

pub returns-clause-moved : goal.returns-clause-moved
returns-clause-moved g c =
    let here = without (λ v. AtEvent g.P.Keeping.holds g.P.Keeping.fixed v
    (write_of v c.args.place c.args.field c.args.old c.args.new) g.C.Choice.next
    (finds.Field c.field_of-found.result) c.mutator_exchange-number.new.seat.me) c.self.view_is
    (after_write c.self.invariant.0 c.args.place c.args.field c.field_of-found.result
    (same_within (λ v. field_at v.own.held c.args.old) c.self.view_is
    c.stands_for-old.ensures.field)
    (same_within (λ v. field_at v.own.held c.args.new) c.self.view_is
    c.stands_for-new.ensures.field)
    c.field_of-found.ensures.field c.mutator_exchange-number.ensures.step).event in
    elim c.if-number-expected.branch [
      | then-number-expected w ↦ rw w.result-is tt
      | else-number-expected w ↦
          rw w.result-is (
            ap (λ (x : Field). same_field c.field_of-found.result x)
                (sym c.stands_for-old.ensures.field)
                ∙ other_field c.field_of-found.ensures.field c.mutator_exchange-number.ensures.step
                (λ same. w.if-number-expected.false (same ∙ sym c.pack_field-expected.ensures.word)),
            here,
          )
    ]
