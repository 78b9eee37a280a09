-- A mutator that holds the anchor alone holds it alone after each call of a round.
use Rattle.std.proofs.Common.{◌≡◌, ◌≤◌, ℕ, true, List, [], ◌∷◌, ◌++◌, length, take, drop}
use Rattle.std.proofs.Common.{refl, sym, ◌∙◌, ap, subst, arith, nat_lt, ◌^◌}
use Rattle.std.proofs.lemmas.List.{length-map}
use Rattle.cell_words.specs.declared.fields.Field.{Field}
use Rattle.core_machine.specs.declared.events.Event.TheVariants as event
use Rattle.core_machine.specs.declared.events.Found.{Found}
use Rattle.core_machine.specs.declared.events.Found.TheVariants as finds
use Rattle.core_machine.specs.declared.places.Held.{Held}
use Rattle.heap_rule.specs.declared.keeping.NoRule.{NoRule}
use Rattle.heap_rule.specs.declared.known.Learned.{Learned}
use Rattle.heap_rule.specs.declared.view.View.{View}
use Rattle.heap_rule.specs.Asks.{known_of, target}
use Rattle.heap_rule.specs.NoRule.{anything_holds, no_field_is_fixed}
use Rattle.heap_table.specs.Seats.{HeapId}
use Rattle.mutator_events.specs.declared.values.Value.{Value}
use Rattle.mutator_events.specs.declared.values.Value.TheVariants as values
use Rattle.mutator_events.specs.Events.{AtEvent}
use Rattle.mutator_events.proofs.Begun.{read_long}
use Rattle.mutator_seat.specs.Bound.{Bound, held_cells, takes}
use Rattle.mutator_seat.specs.Stores.{MayOverwrite, PicksOverwrite}
use Rattle.mutator_seat.specs.Stretches.{Kept}
use Rattle.mutator_seat.proofs.Loads.{box_any}
use Rattle.mutator_seat.proofs.Staying.{Stays}
use Rattle.cell_tests.specs.Storing.{HoldsAnchor}

-- no rule asks for a pass
pub picks_any : (reads next : Learned → Found → NoRule → NoRule) (m : Bound NoRule) (place f : ℕ)
    (new : Value)
    → PicksOverwrite anything_holds no_field_is_fixed reads next m place f new
picks_any reads next m place f new = record {
  store = λ looked kept presence fetched at seen step still same s l passes mine can proper pass
      stands. tt;
  read = λ looked kept presence s l passes mine can proper pass stands. tt;
  exchange = λ looked kept presence read at seen step still same s l passes mine can proper pass
      stands. tt;
}

-- a number may be stored in the anchor
pub may_any : (v : View NoRule) (n : ℕ) → nat_lt n (2 ^ 62) ≡ true → v.presence.inside ≡ true
    → length v.own.held ≡ 1 → 2 ≤ v.room → target v 0 ≡ 0
    → MayOverwrite no_field_is_fixed v 0 0 (values.Num n)
may_any v n small inside held fits anchor = record {
  inside = inside;
  there = omega (arith, held);
  payload = omega arith;
  box = box_any (target v 0) (known_of v 0) anchor;
  new_named = small;
  sealed = tt;
  spares = λ is. anchor;
  room = omega (arith, held, fits);
}

many : (m : Bound NoRule) → length (held_cells m) ≡ length m.seat.me.own.held
many m = length-map m.seat.me.own.held (λ (place : Held). place.cell)

one_left : (xs : List Held) → 1 ≤ length xs → length (take 1 xs ++ take 0 (drop 0 xs)) ≡ 1
one_left [] some = absurd (omega (arith, some))
one_left (x ∷ xs) some = refl

module _ (heap : HeapId) (a b : Bound NoRule) (one : HoldsAnchor heap a) where
  pub kept_anchor : Kept a b → HoldsAnchor heap b
  kept_anchor kept = record {
    heap_is = kept.heap ∙ one.heap_is;
    seat_is = (kept.table ∙ one.seat_is.0, kept.shape ∙ one.seat_is.1);
    inside = kept.inside ∙ one.inside;
    held = sym (many b) ∙ ap (λ (xs : List ℕ). length xs) kept.held ∙ many a ∙ one.held;
    fits = subst (λ (n : ℕ). 2 ≤ n) (sym kept.room) one.fits;
  }

  pub stored_anchor : Stays a b → HoldsAnchor heap b
  stored_anchor stays = record {
    heap_is = stays.heap ∙ one.heap_is;
    seat_is = (stays.table ∙ one.seat_is.0, stays.shape ∙ one.seat_is.1);
    inside = ap (λ p. p.inside) stays.presence ∙ one.inside;
    held = sym (many b) ∙ ap (λ (xs : List ℕ). length xs) stays.held ∙ many a ∙ one.held;
    fits = subst (λ (n : ℕ). 2 ≤ n) (sym stays.room) one.fits;
  }

  -- what a read holds more is cut
  pub read_anchor : {next : Learned → Found → NoRule → NoRule} (f : ℕ) (found : Field)
      (c : Bound NoRule) → b.heap ≡ a.heap → b.seat.table ≡ a.seat.table
      → AtEvent anything_holds no_field_is_fixed a.seat.me (event.Read a.seat.me.number 0 f) next
      (finds.Field found) b.seat.me
      → c ≡ takes b (event.Keep b.seat.me.number 1 0 0) (finds.Presence b.seat.me.presence)
      → HoldsAnchor heap c
  read_anchor f found c heap_is table step cut =
      let now = step.new in
      let long = read_long a.seat.me.own found in
      let more = ap (λ (v : View NoRule). length v.own.held) now in
      record {
        heap_is = ap (λ (m : Bound NoRule). m.heap) cut ∙ heap_is ∙ one.heap_is;
        seat_is = (
          ap (λ (m : Bound NoRule). m.seat.table) cut ∙ table ∙ one.seat_is.0,
          ap (λ (m : Bound NoRule). m.seat.me.shape) cut ∙ ap (λ (v : View NoRule). v.shape) now
              ∙ one.seat_is.1,
        );
        inside = ap (λ (m : Bound NoRule). m.seat.me.presence.inside) cut
            ∙ ap (λ (v : View NoRule). v.presence.inside) now ∙ one.inside;
        held = ap (λ (m : Bound NoRule). length m.seat.me.own.held) cut
            ∙ one_left b.seat.me.own.held (omega (arith, long, more, one.held));
        fits = subst (λ (n : ℕ). 2 ≤ n)
            (sym (ap (λ (m : Bound NoRule). m.seat.me.room) cut
            ∙ ap (λ (v : View NoRule). v.room) now)) one.fits;
      }
