use Rattle.std.proofs.Common.{◌≡◌, ◌⊎◌, false, OnOk, IfErr, sym, subst}
use Rattle.cell_words.specs.declared.fields.Field.{Field}
use Rattle.core_machine.specs.Words.{same_field}
use Rattle.mutator_seat.specs.Bound.{Bound, bound}
use Rattle.mutator_seat.specs.Stores.{Exchanged, MayOverwrite, Overwritten, PicksOverwrite}
use Rattle.mutator_seat.specs.Stretches.{SamePlaces}
use Rattle.mutator_seat.proofs.mutator.Mutator.store.Goals as goal

pub store-requires-clause-may : goal.store-requires-clause-may
store-requires-clause-may g c =
    subst (λ (m : Bound _). MayOverwrite g.P.Keeping.fixed m.seat.me c.args.place c.args.field
    c.args.new) (sym c.self.view_is) c.requires.may

pub store-requires-clause-rule : goal.store-requires-clause-rule
store-requires-clause-rule g c =
    subst (λ (m : Bound _). PicksOverwrite g.P.Keeping.holds g.P.Keeping.fixed g.R.Choice.next
    g.C.Choice.next m c.args.place c.args.field c.args.new) (sym c.self.view_is) c.requires.rule

pub returns-clause-made : goal.returns-clause-made
returns-clause-made g c =
    let after = bound c.self.inside.heap.now c.store.new.seat in
    subst (λ (m : Bound _). OnOk c.store.result (Overwritten g.P.Keeping.holds
    g.P.Keeping.fixed g.C.Choice.next m c.args.place c.args.field c.args.new after
    ⊎ ((seen : Field) × Exchanged g.P.Keeping.holds g.P.Keeping.fixed g.R.Choice.next
    g.C.Choice.next m c.args.place c.args.field c.args.new seen seen after))) c.self.view_is
    c.store.ensures.made

pub returns-clause-moved : goal.returns-clause-moved
returns-clause-moved g c =
    let after = bound c.self.inside.heap.now c.store.new.seat in
    subst (λ (m : Bound _). IfErr c.store.result (λ moved. (seen : Field)
    × (same_field moved.found seen ≡ false)
    × Exchanged g.P.Keeping.holds g.P.Keeping.fixed g.R.Choice.next g.C.Choice.next m
    c.args.place c.args.field c.args.new seen moved.found after)) c.self.view_is
    c.store.ensures.moved

pub returns-clause-places : goal.returns-clause-places
returns-clause-places g c =
    let after = bound c.self.inside.heap.now c.store.new.seat in
    subst (λ (m : Bound _). SamePlaces m after) c.self.view_is c.store.ensures.places
