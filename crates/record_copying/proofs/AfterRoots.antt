-- The copies of the roots take the place of all that is held after the first places.
use Rattle.std.proofs.Common.{◌≡◌, ◌<◌, ◌≤◌, ◌+◌, ◌++◌, ◌∷◌, ◌∙◌, ℕ, suc, List, [], All, length}
use Rattle.std.proofs.Common.{map, take, true, refl, sym, ap, arith}
use Rattle.std.specs.Prelude.{drop, slice_index_or}
use Rattle.std.proofs.lemmas.List.{append-nil, length-map}
use Rattle.core_machine.specs.declared.events.Event.TheVariants as event
use Rattle.core_machine.specs.declared.events.Found.TheVariants as finds
use Rattle.heap_rule.specs.Asks.{MayKeep}
use Rattle.heap_rule.specs.Facts.{is_term}
use Rattle.heap_rule.specs.Lore.{known_at}
use Rattle.heap_rule.specs.declared.known.Known.{Known}
use Rattle.minor_heap.specs.declared.fields.MinorField.{MinorField}
use Rattle.minor_heap.specs.declared.fields.MinorRef.{MinorRef}
use Rattle.mutator_events.proofs.HeldCells.{cells_many}
use Rattle.mutator_seat.specs.Bound.{Bound, held_cells, takes}
use Rattle.promotion.specs.Copying.{Appended}
use Rattle.promotion.specs.Promoting.{knows_term}
use Rattle.promotion.proofs.Growing.{grown_none}
use Rattle.promotion.proofs.Finishing.{may_collect}
use Rattle.promotion.proofs.Holding.{claims_kept, held_kept, keep_stays, kept_tail, known_kept}
use Rattle.promotion.proofs.Knowing.{term_there}
use Rattle.record_copying.specs.Settling.{Settled}

map_all : {A B : Type 0} (f h : A → B) (xs : List A) → All (λ (x : A). f x ≡ h x) xs
    → map f xs ≡ map h xs
map_all f h [] all = refl
map_all f h (x ∷ xs) all =
    λ i. all 0 x (omega arith) i ∷ map_all f h xs (λ k d lt. all (suc k) d (omega (arith, lt))) i

module _ {P : Type 0} (a d : Bound P) (records : List (List MinorField)) (roots : List MinorRef)
    (place_of : MinorRef → ℕ) (base first count : ℕ)
    (so : Appended a (map (λ r. slice_index_or (held_cells a) (place_of r) 0) roots)
    (map (λ r. known_at a.seat.me.known (place_of r)) roots) d)
    (within : base ≤ length a.seat.me.own.held)
    (first_is : first ≡ length a.seat.me.own.held) (count_is : count ≡ length roots) where
  abbrev cell : MinorRef → ℕ
  cell r = slice_index_or (held_cells a) (place_of r) 0

  abbrev known : MinorRef → Known
  known r = known_at a.seat.me.known (place_of r)

  pub may_settle : a.seat.me.presence.inside ≡ true → 1 ≤ base
      → length a.seat.me.own.held + length roots ≤ a.seat.me.room
      → MayKeep d.seat.me base first count
  may_settle inside some room =
      may_collect a a d (grown_none a).grown (map cell roots) (map known roots) so base first count
      0 inside some within first_is (count_is ∙ sym (length-map roots cell))
      (omega (arith, room, count_is))

  tail : {A : Type 0} (xs zs ws : List A) → ws ≡ xs ++ zs → base ≤ length xs → first ≡ length xs
      → count ≡ length zs → take base ws ++ take count (drop first ws) ≡ take base xs ++ zs
  tail xs zs ws is fits first_at many =
      ap (λ (vs : List _). take base vs ++ take count (drop first vs))
      (is ∙ ap (λ (vs : List _). vs ++ zs) (sym (append-nil xs)))
      ∙ kept_tail xs [] zs base first count fits
      (first_at ∙ ap (λ (vs : List _). length vs) (sym (append-nil xs))) many

  pub settled_as : (e : Bound P) → length a.seat.me.own.held ≡ length a.seat.me.known
      → All (λ (r : MinorRef). known_at a.seat.me.known (place_of r) ≡ knows_term a records r) roots
      → e ≡ takes d (event.Keep d.seat.me.number base first count)
      (finds.Presence d.seat.me.presence)
      → Settled a records roots base e
  settled_as e fit at told = record {
    cell = cell;
    held = held_kept d e base first count told
        ∙ tail (held_cells a) (map cell roots) (held_cells d) so.held
        (omega (arith, within, cells_many a.seat.me.own.held))
        (first_is ∙ sym (cells_many a.seat.me.own.held))
        (count_is ∙ sym (length-map roots cell));
    known = known_kept d e base first count told
        ∙ tail a.seat.me.known (map known roots) d.seat.me.known so.known_is
        (omega (arith, within, fit)) (first_is ∙ fit) (count_is ∙ sym (length-map roots known))
        ∙ ap (λ (ks : List Known). take base a.seat.me.known ++ ks)
        (map_all known (knows_term a records) roots at);
    claims = claims_kept d e base first count told ∙ so.claims;
    stays = keep_stays a d e base first count so.stays told;
  }

-- the copies of the roots are held
pub roots_held : {P : Type 0} (a : Bound P) (records : List (List MinorField))
    (roots : List MinorRef) (place_of : MinorRef → ℕ)
    → length a.seat.me.own.held ≡ length a.seat.me.known
    → All (λ (r : MinorRef). known_at a.seat.me.known (place_of r) ≡ knows_term a records r) roots
    → All (λ (r : MinorRef). place_of r < length a.seat.me.own.held) roots
roots_held a records roots place_of fit at i d lt =
    let there = term_there a.seat.me.known (place_of (slice_index_or roots i d))
    (ap is_term (at i d lt)) in omega (arith, there, fit)
