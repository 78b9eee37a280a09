use Rattle.std.proofs.Common.{◌≡◌, true, refl, sym, ◌∙◌, ap, subst}
use Rattle.cell_words.specs.declared.write_barrier.Barrier.{Barrier}
use Rattle.core_machine.specs.Places.{marks_stand}
use Rattle.heap_rule.specs.declared.keeping.NoRule.{NoRule}
use Rattle.heap_rule.specs.declared.view.View.{View}
use Rattle.heap_rule.specs.NoRule.{no_field_is_fixed}
use Rattle.mutator_events.specs.declared.values.Value.TheVariants as values
use Rattle.mutator_events.specs.Values.{field_at}
use Rattle.mutator_seat.specs.Bound.{bound}
use Rattle.mutator_seat.proofs.Calm.{kept_same}
use Rattle.mutator_seat.proofs.Stores.{barrier_still, fetch_loads}
use Rattle.mutator_seat.proofs.Writes.{may_store}
use Rattle.cell_tests.proofs.Anchored.{may_any}
use Rattle.cell_tests.proofs.fetching.store_seven.Goals as goal

pub fetch-found-requires-clause-may : goal.fetch-found-requires-clause-may
fetch-found-requires-clause-may c =
    let free = c.requires.free in
    let may = may_any c.args.seat.now.me 7 refl free.inside free.held free.fits free.anchor in
    record {
      inside = free.inside;
      settled = free.settled;
      lets = free.lets;
      there = may.there;
      payload = may.payload;
      box = may.box;
      room = may.room;
    }

pub store-requires-clause-seat : goal.store-requires-clause-seat
store-requires-clause-seat c = (
  c.fetch-found.ensures.table ∙ c.requires.seat.0,
  ap (λ (v : View NoRule). v.shape) c.fetch-found.ensures.told.2.new ∙ c.requires.seat.1,
)

pub store-requires-clause-may : goal.store-requires-clause-may
store-requires-clause-may c =
    let free = c.requires.free in
    let told = c.fetch-found.ensures.told in
    let was = c.args.seat.now.me in
    let m = bound c.args.heap.now c.fetch-found.new.self in
    let may = may_any was 7 refl free.inside free.held free.fits free.anchor in
    let loads = fetch_loads 0 0 c.fetch-found.result (values.Num 7) told.0 may told.1 told.2 in
    may_store no_field_is_fixed m m 0 0 c.fetch-found.result (values.Num 7) loads.update
    (kept_same m) told.0 (ap (λ (v : View NoRule). v.own.pending) told.2.new) loads.stands
    (subst (λ (b : Barrier). marks_stand b m.seat.me.own.held
    (field_at m.seat.me.own.held c.fetch-found.result)
    (field_at m.seat.me.own.held (values.Num 7)) ≡ true)
    (sym (barrier_still was m.seat.me loads.presence loads.mode free.nothing)) refl)

pub store-requires-clause-rule : goal.store-requires-clause-rule
store-requires-clause-rule c = λ s l passes mine can proper pass stands. tt

pub returns-clause-seat : goal.returns-clause-seat
returns-clause-seat c = (
  c.store.ensures.table ∙ c.fetch-found.ensures.table ∙ c.requires.seat.0,
  ap (λ (v : View NoRule). v.shape) c.store.ensures.made.new
      ∙ ap (λ (v : View NoRule). v.shape) c.fetch-found.ensures.told.2.new ∙ c.requires.seat.1,
)

pub returns-clause-presence : goal.returns-clause-presence
returns-clause-presence c =
    ap (λ (v : View NoRule). v.presence) c.store.ensures.made.new
    ∙ ap (λ (v : View NoRule). v.presence) c.fetch-found.ensures.told.2.new
