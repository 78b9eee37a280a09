use Rattle.std.proofs.Common.{◌≡◌, ℕ, true, false, length, is_some, refl, sym, ◌∙◌, ap, subst}
use Rattle.std.proofs.Common.{Option}
use Rattle.cell_words.specs.declared.controls.Control.{Control}
use Rattle.cell_words.specs.declared.fields.Field.{Field}
use Rattle.cell_words.specs.declared.write_barrier.Barrier.{Barrier}
use Rattle.core_machine.specs.declared.events.Event.TheVariants as event
use Rattle.core_machine.specs.declared.events.Found.TheVariants as finds
use Rattle.core_machine.specs.Places.{marks_stand}
use Rattle.core_machine.specs.Words.{same_field}
use Rattle.heap_rule.specs.declared.view.View.{View}
use Rattle.heap_rule.specs.Steps.{Picks}
use Rattle.mutator_events.specs.declared.values.Value.{Value}
use Rattle.mutator_events.specs.Events.{AtEvent}
use Rattle.mutator_events.specs.Values.{field_at, value_found}
use Rattle.mutator_events.proofs.Begun.{read_pending}
use Rattle.mutator_seat.specs.Bound.{bound}
use Rattle.mutator_seat.specs.Stretches.{Calm, MarksOf}
use Rattle.mutator_seat.specs.Writes.{wanted_by}
use Rattle.mutator_seat.proofs.Stores.{barrier_still, read_loads}
use Rattle.mutator_seat.proofs.Updates.{err_then, ok_then}
use Rattle.mutator_seat.proofs.Writes.{field_same, may_write}
use Rattle.mutator_seat.proofs.storing.exchange_read.Goals as goal

pub read-found-requires-clause-may : goal.read-found-requires-clause-may
read-found-requires-clause-may g c = record {
  inside = c.requires.may.inside;
  there = c.requires.may.there;
  payload = c.requires.may.payload;
  room = c.requires.may.room;
}

pub mark_wanted-requires-clause-seat : goal.mark_wanted-requires-clause-seat
mark_wanted-requires-clause-seat g c = (
  c.read-found.ensures.table ∙ c.requires.seat.0,
  ap (λ (u : View _). u.shape) c.read-found.ensures.told.2.new ∙ c.requires.seat.1,
)

pub mark_wanted-requires-clause-inside : goal.mark_wanted-requires-clause-inside
mark_wanted-requires-clause-inside g c =
    let told = c.read-found.ensures.told in
    (read_loads c.args.place c.args.field c.read-found.result c.args.new told.0 c.requires.may
    told.1 told.2).update.inside

pub mark_wanted-requires-clause-wanted : goal.mark_wanted-requires-clause-wanted
mark_wanted-requires-clause-wanted g c =
    let told = c.read-found.ensures.told in
    let loads = read_loads c.args.place c.args.field c.read-found.result c.args.new told.0
    c.requires.may told.1 told.2 in
    barrier_still c.args.seat.now.me c.read-found.new.self.me loads.presence loads.mode
    c.requires.wanted

pub mark_wanted-requires-clause-old_named : goal.mark_wanted-requires-clause-old_named
mark_wanted-requires-clause-old_named g c =
    let told = c.read-found.ensures.told in
    (read_loads c.args.place c.args.field c.read-found.result c.args.new told.0 c.requires.may
    told.1 told.2).update.old_named

pub mark_wanted-requires-clause-new_named : goal.mark_wanted-requires-clause-new_named
mark_wanted-requires-clause-new_named g c =
    let told = c.read-found.ensures.told in
    (read_loads c.args.place c.args.field c.read-found.result c.args.new told.0 c.requires.may
    told.1 told.2).update.new_named

pub write-requires-clause-seat : goal.write-requires-clause-seat
write-requires-clause-seat g c =
    let kept = c.mark_wanted.ensures.calm.kept in (
      kept.table ∙ c.read-found.ensures.table ∙ c.requires.seat.0,
      kept.shape ∙ ap (λ (u : View _). u.shape) c.read-found.ensures.told.2.new
          ∙ c.requires.seat.1,
    )

pub write-requires-clause-may : goal.write-requires-clause-may
write-requires-clause-may g c =
    let told = c.read-found.ensures.told in
    let heap = c.args.heap.now in
    let loaded = bound heap c.read-found.new.self in
    let at = bound heap c.mark_wanted.new.seat in
    let loads = read_loads c.args.place c.args.field c.read-found.result c.args.new told.0
    c.requires.may told.1 told.2 in
    let kept = c.mark_wanted.ensures.calm.kept in
    may_write g.P.Keeping.fixed loaded at c.args.place c.args.field c.read-found.result c.args.new
    loads.update kept
    (kept.pending ∙ ap (λ (u : View _). u.own.pending) told.2.new
    ∙ read_pending c.args.seat.now.me.own told.0 ∙ c.requires.settled)
    (ap (λ (m : Option Control). is_some m) (c.mark_wanted.ensures.mode ∙ loads.mode)
    ∙ c.requires.mode)
    (subst (λ (b : Barrier). marks_stand b at.seat.me.own.held
    (field_at at.seat.me.own.held c.read-found.result) (field_at at.seat.me.own.held c.args.new)
    ≡ true)
    (sym (barrier_still loaded.seat.me at.seat.me c.mark_wanted.ensures.presence
    c.mark_wanted.ensures.mode
    (barrier_still c.args.seat.now.me loaded.seat.me loads.presence loads.mode
    c.requires.wanted)))
    c.mark_wanted.ensures.marks)

pub write-requires-clause-rule : goal.write-requires-clause-rule
write-requires-clause-rule g c =
    let told = c.read-found.ensures.told in
    let heap = c.args.heap.now in
    let loaded = bound heap c.read-found.new.self in
    let at = bound heap c.mark_wanted.new.seat in
    let loads = read_loads c.args.place c.args.field c.read-found.result c.args.new told.0
    c.requires.may told.1 told.2 in
    let kept = c.mark_wanted.ensures.calm.kept in
    let stands = field_same at.seat.me.own.held loaded.seat.me.own.held kept.held
    c.read-found.result ∙ loads.stands in
    subst (λ (x : Field). Picks g.P.Keeping.holds g.P.Keeping.fixed g.C.Choice.next at.seat.me
    (event.Write at.seat.me.number c.args.place c.args.field x
    (field_at at.seat.me.own.held c.args.new))) (sym stands)
    (c.requires.rule loaded at told.0
    (record { event = told.2; heap = refl; table = c.read-found.ensures.table }) kept
    c.mark_wanted.ensures.presence)

pub returns-clause-made : goal.returns-clause-made
returns-clause-made g c =
    let told = c.read-found.ensures.told in
    let heap = c.args.heap.now in
    let was = c.args.seat.now in
    let loaded = bound heap c.read-found.new.self in
    let at = bound heap c.mark_wanted.new.seat in
    let loads = read_loads c.args.place c.args.field c.read-found.result c.args.new told.0
    c.requires.may told.1 told.2 in
    let stands = field_same at.seat.me.own.held loaded.seat.me.own.held
    c.mark_wanted.ensures.calm.kept.held c.read-found.result ∙ loads.stands in
    ok_then c.write.result c.write.ensures.made (λ made. (
      told.0,
      record {
        loaded = loaded;
        load = record { event = told.2; heap = refl; table = c.read-found.ensures.table };
        at = at;
        marks = subst (λ (n : ℕ). Calm (MarksOf n (wanted_by c.args.wanted
            (value_found (length was.me.own.held) told.0) c.args.new)) loaded at)
            (ap (λ (u : View _). u.number) told.2.new)
            (subst (λ (x : Value). Calm (MarksOf loaded.seat.me.number
            (wanted_by c.args.wanted x c.args.new)) loaded at) told.1
            c.mark_wanted.ensures.calm);
        presence = c.mark_wanted.ensures.presence;
        write = record {
          event = subst (λ (x : Field). AtEvent g.P.Keeping.holds g.P.Keeping.fixed at.seat.me
              (event.Write at.seat.me.number c.args.place c.args.field x
              (field_at at.seat.me.own.held c.args.new)) g.C.Choice.next (finds.Field x)
              c.write.new.self.me) stands made;
          heap = refl;
          table = c.write.ensures.table;
        };
      },
    ))

pub returns-clause-moved : goal.returns-clause-moved
returns-clause-moved g c =
    let told = c.read-found.ensures.told in
    let heap = c.args.heap.now in
    let was = c.args.seat.now in
    let loaded = bound heap c.read-found.new.self in
    let at = bound heap c.mark_wanted.new.seat in
    let loads = read_loads c.args.place c.args.field c.read-found.result c.args.new told.0
    c.requires.may told.1 told.2 in
    let stands = field_same at.seat.me.own.held loaded.seat.me.own.held
    c.mark_wanted.ensures.calm.kept.held c.read-found.result ∙ loads.stands in
    err_then c.write.result c.write.ensures.moved (λ moved both. (
      told.0,
      subst (λ (x : Field). same_field moved.found x ≡ false) stands both.0,
      record {
        loaded = loaded;
        load = record { event = told.2; heap = refl; table = c.read-found.ensures.table };
        at = at;
        marks = subst (λ (n : ℕ). Calm (MarksOf n (wanted_by c.args.wanted
            (value_found (length was.me.own.held) told.0) c.args.new)) loaded at)
            (ap (λ (u : View _). u.number) told.2.new)
            (subst (λ (x : Value). Calm (MarksOf loaded.seat.me.number
            (wanted_by c.args.wanted x c.args.new)) loaded at) told.1
            c.mark_wanted.ensures.calm);
        presence = c.mark_wanted.ensures.presence;
        write = record {
          event = subst (λ (x : Field). AtEvent g.P.Keeping.holds g.P.Keeping.fixed at.seat.me
              (event.Write at.seat.me.number c.args.place c.args.field x
              (field_at at.seat.me.own.held c.args.new)) g.C.Choice.next
              (finds.Field moved.found) c.write.new.self.me) stands both.1;
          heap = refl;
          table = c.write.ensures.table;
        };
      },
    ))
