use Rattle.std.proofs.Common.{◌≡◌, ℕ, true, length, refl, sym, ◌∙◌, ap, subst}
use Rattle.core_machine.specs.Places.{marks_stand}
use Rattle.cell_words.specs.declared.write_barrier.Barrier.{Barrier}
use Rattle.heap_rule.specs.declared.view.View.{View}
use Rattle.mutator_events.specs.declared.values.Value.{Value}
use Rattle.mutator_events.specs.Values.{field_at, value_found}
use Rattle.mutator_seat.specs.Bound.{bound}
use Rattle.mutator_seat.specs.Stretches.{Calm, MarksOf}
use Rattle.mutator_seat.specs.Writes.{wanted_by}
use Rattle.mutator_seat.proofs.Stores.{barrier_still, fetch_loads}
use Rattle.mutator_seat.proofs.Writes.{field_same, may_store}
use Rattle.mutator_seat.proofs.storing.store_fetched.Goals as goal

pub fetch-seen-requires-clause-may : goal.fetch-seen-requires-clause-may
fetch-seen-requires-clause-may g c = record {
  inside = c.requires.may.inside;
  settled = c.requires.settled;
  lets = c.requires.lets;
  there = c.requires.may.there;
  payload = c.requires.may.payload;
  box = c.requires.may.box;
  room = c.requires.may.room;
}

pub mark_wanted-requires-clause-seat : goal.mark_wanted-requires-clause-seat
mark_wanted-requires-clause-seat g c = (
  c.fetch-seen.ensures.table ∙ c.requires.seat.0,
  ap (λ (u : View _). u.shape) c.fetch-seen.ensures.told.2.new ∙ c.requires.seat.1,
)

pub mark_wanted-requires-clause-inside : goal.mark_wanted-requires-clause-inside
mark_wanted-requires-clause-inside g c =
    let told = c.fetch-seen.ensures.told in
    (fetch_loads c.args.place c.args.field c.fetch-seen.result c.args.new told.0 c.requires.may
    told.1 told.2).update.inside

pub mark_wanted-requires-clause-wanted : goal.mark_wanted-requires-clause-wanted
mark_wanted-requires-clause-wanted g c =
    let told = c.fetch-seen.ensures.told in
    let loads = fetch_loads c.args.place c.args.field c.fetch-seen.result c.args.new told.0
    c.requires.may told.1 told.2 in
    barrier_still c.args.seat.now.me c.fetch-seen.new.self.me loads.presence loads.mode
    c.requires.wanted

pub mark_wanted-requires-clause-old_named : goal.mark_wanted-requires-clause-old_named
mark_wanted-requires-clause-old_named g c =
    let told = c.fetch-seen.ensures.told in
    (fetch_loads c.args.place c.args.field c.fetch-seen.result c.args.new told.0 c.requires.may
    told.1 told.2).update.old_named

pub mark_wanted-requires-clause-new_named : goal.mark_wanted-requires-clause-new_named
mark_wanted-requires-clause-new_named g c =
    let told = c.fetch-seen.ensures.told in
    (fetch_loads c.args.place c.args.field c.fetch-seen.result c.args.new told.0 c.requires.may
    told.1 told.2).update.new_named

pub store-requires-clause-seat : goal.store-requires-clause-seat
store-requires-clause-seat g c =
    let kept = c.mark_wanted.ensures.calm.kept in (
      kept.table ∙ c.fetch-seen.ensures.table ∙ c.requires.seat.0,
      kept.shape ∙ ap (λ (u : View _). u.shape) c.fetch-seen.ensures.told.2.new
          ∙ c.requires.seat.1,
    )

pub store-requires-clause-may : goal.store-requires-clause-may
store-requires-clause-may g c =
    let told = c.fetch-seen.ensures.told in
    let heap = c.args.heap.now in
    let loaded = bound heap c.fetch-seen.new.self in
    let at = bound heap c.mark_wanted.new.seat in
    let loads = fetch_loads c.args.place c.args.field c.fetch-seen.result c.args.new told.0
    c.requires.may told.1 told.2 in
    let kept = c.mark_wanted.ensures.calm.kept in
    may_store g.P.Keeping.fixed loaded at c.args.place c.args.field c.fetch-seen.result c.args.new
    loads.update kept told.0 (ap (λ (u : View _). u.own.pending) told.2.new)
    (field_same at.seat.me.own.held loaded.seat.me.own.held kept.held c.fetch-seen.result
    ∙ loads.stands)
    (subst (λ (b : Barrier). marks_stand b at.seat.me.own.held
    (field_at at.seat.me.own.held c.fetch-seen.result) (field_at at.seat.me.own.held c.args.new)
    ≡ true)
    (sym (barrier_still loaded.seat.me at.seat.me c.mark_wanted.ensures.presence
    c.mark_wanted.ensures.mode
    (barrier_still c.args.seat.now.me loaded.seat.me loads.presence loads.mode
    c.requires.wanted)))
    c.mark_wanted.ensures.marks)

pub store-requires-clause-rule : goal.store-requires-clause-rule
store-requires-clause-rule g c =
    let told = c.fetch-seen.ensures.told in
    let heap = c.args.heap.now in
    c.requires.rule (bound heap c.fetch-seen.new.self) (bound heap c.mark_wanted.new.seat) told.0
    (record { event = told.2; heap = refl; table = c.fetch-seen.ensures.table })
    c.mark_wanted.ensures.calm.kept c.mark_wanted.ensures.presence

pub returns : goal.returns
returns g c =
    let told = c.fetch-seen.ensures.told in
    let heap = c.args.heap.now in
    let was = c.args.seat.now in
    let loaded = bound heap c.fetch-seen.new.self in
    let at = bound heap c.mark_wanted.new.seat in record {
      replaced = (
        told.0,
        record {
          loaded = loaded;
          load = record { event = told.2; heap = refl; table = c.fetch-seen.ensures.table };
          at = at;
          marks = subst (λ (n : ℕ). Calm (MarksOf n (wanted_by c.args.wanted
              (value_found (length was.me.own.held) told.0) c.args.new)) loaded at)
              (ap (λ (u : View _). u.number) told.2.new)
              (subst (λ (x : Value). Calm (MarksOf loaded.seat.me.number
              (wanted_by c.args.wanted x c.args.new)) loaded at) told.1
              c.mark_wanted.ensures.calm);
          presence = c.mark_wanted.ensures.presence;
          write = record {
            event = c.store.ensures.made;
            heap = refl;
            table = c.store.ensures.table;
          };
        },
      );
    }
