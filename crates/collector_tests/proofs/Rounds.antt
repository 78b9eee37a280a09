-- A round of a mutator that holds one cell: it claims, seals and cuts.
use Rattle.std.proofs.Common.{◌≡◌, ◌≤◌, ◌+◌, ℕ, List, [], ◌∷◌, ◌++◌, length}
use Rattle.std.proofs.Common.{slice_index_or, take, drop, refl, sym, ◌∙◌, ap, subst, arith}
use Rattle.std.proofs.lemmas.List.{length-append, length-map}
use Rattle.cell_words.specs.declared.fields.Kind.TheVariants as kind
use Rattle.collector_tests.specs.Holding.{Holds, HoldsOne}
use Rattle.core_machine.specs.declared.events.Event.TheVariants as event
use Rattle.core_machine.specs.declared.events.Found.{Found}
use Rattle.core_machine.specs.declared.events.Found.TheVariants as finds
use Rattle.core_machine.specs.declared.places.Held.{Held}
use Rattle.heap_rule.specs.Lore.{at_cell, cells_in, five_nulls, known_sealed}
use Rattle.heap_rule.specs.declared.keeping.NoRule.{NoRule}
use Rattle.heap_rule.specs.declared.known.Known.{Known}
use Rattle.heap_rule.specs.declared.known.Known.TheVariants as knows
use Rattle.heap_table.specs.Seats.{HeapId}
use Rattle.mutator_seat.specs.Bound.{Bound, held_cells, takes}
use Rattle.mutator_seat.specs.Claims.{Claimed}

held_length : (m : Bound NoRule) → length (held_cells m) ≡ length m.seat.me.own.held
held_length m = length-map m.seat.me.own.held (λ (place : Held). place.cell)

holds_claimed : (heap : HeapId) (room many place : ℕ) (old new : Bound NoRule)
    → Claimed old place new → Holds heap room many old → Holds heap room (many + 1) new
holds_claimed heap room many place old new claimed holds =
    let kept = claimed.calm.kept in
    let told = claimed.told in
    record {
      heap_is = ap (λ (x : Bound NoRule). x.heap) told ∙ kept.heap ∙ holds.heap_is;
      seat_is = (
        ap (λ (x : Bound NoRule). x.seat.table) told ∙ kept.table ∙ holds.seat_is.0,
        ap (λ (x : Bound NoRule). x.seat.me.shape) told ∙ kept.shape ∙ holds.seat_is.1,
      );
      inside = ap (λ (x : Bound NoRule). x.seat.me.presence.inside) told ∙ kept.inside
          ∙ holds.inside;
      held = sym (held_length new)
          ∙ ap (λ (xs : List ℕ). length xs) claimed.held
          ∙ length-append (held_cells old) (claimed.cell ∷ [])
          ∙ ap (λ (n : ℕ). n + 1) (held_length old ∙ holds.held);
      fits = subst (λ (n : ℕ). room ≤ n)
          (sym (ap (λ (x : Bound NoRule). x.seat.me.room) told ∙ kept.room)) holds.fits;
    }

-- Cutting the list to one place.

one_left : (xs : List Held) → 1 ≤ length xs
    → length (take 1 xs ++ take 0 (drop 0 xs)) ≡ 1
one_left [] some = absurd (omega (arith, some))
one_left (x ∷ xs) some = refl

record KnowsFirst (known : List Known) : Type 0 where
  pub first : Known
  pub is : take 1 known ++ take 0 (drop 0 known) ≡ first ∷ []

first_known : (change : Known → Known) (c : ℕ) (cells : List ℕ) (k : Known) (known : List Known)
    → KnowsFirst (at_cell change c cells (k ∷ known))
first_known change c [] k known = record { first = k; is = refl }
first_known change c (cell ∷ cells) k known = record { first = _; is = refl }

pub one_again : (heap : HeapId) (place : ℕ) (old claims seals cuts : Bound NoRule) (found : Found)
    → Claimed old place claims → HoldsOne heap old
    → seals ≡ takes claims (event.Seal claims.seat.me.number place kind.Record) finds.Stored
    → cuts ≡ takes seals (event.Keep seals.seat.me.number 1 0 0) found
    → HoldsOne heap cuts
one_again heap place old claims seals cuts found claimed one sealed cut =
    let holds = holds_claimed heap 2 1 place old claims claimed one.holds in
    let knows_two = claimed.known
    ∙ ap (λ (ks : List Known). ks ++ knows.Raw five_nulls ∷ []) one.knows in
    let change = known_sealed (cells_in claims.seat.me.own.held) claims.seat.me.known kind.Record in
    let first = first_known change
    (slice_index_or (cells_in claims.seat.me.own.held) place 0)
    (cells_in claims.seat.me.own.held) one.known (knows.Raw five_nulls ∷ []) in
    record {
      holds = record {
        heap_is = ap (λ (x : Bound NoRule). x.heap) cut ∙ ap (λ (x : Bound NoRule). x.heap) sealed
            ∙ holds.heap_is;
        seat_is = (
          ap (λ (x : Bound NoRule). x.seat.table) cut
              ∙ ap (λ (x : Bound NoRule). x.seat.table) sealed ∙ holds.seat_is.0,
          ap (λ (x : Bound NoRule). x.seat.me.shape) cut
              ∙ ap (λ (x : Bound NoRule). x.seat.me.shape) sealed ∙ holds.seat_is.1,
        );
        inside = ap (λ (x : Bound NoRule). x.seat.me.presence.inside) cut
            ∙ ap (λ (x : Bound NoRule). x.seat.me.presence.inside) sealed ∙ holds.inside;
        held = ap (λ (x : Bound NoRule). length x.seat.me.own.held) cut
            ∙ ap (λ (x : Bound NoRule). length
            (take 1 x.seat.me.own.held ++ take 0 (drop 0 x.seat.me.own.held))) sealed
            ∙ one_left claims.seat.me.own.held (omega (arith, holds.held));
        fits = subst (λ (n : ℕ). 2 ≤ n)
            (sym (ap (λ (x : Bound NoRule). x.seat.me.room) cut
            ∙ ap (λ (x : Bound NoRule). x.seat.me.room) sealed)) holds.fits;
      };
      known = first.first;
      knows = ap (λ (x : Bound NoRule). x.seat.me.known) cut
          ∙ ap (λ (x : Bound NoRule).
          take 1 x.seat.me.known ++ take 0 (drop 0 x.seat.me.known)) sealed
          ∙ ap (λ (ks : List Known). take 1 (at_cell change
          (slice_index_or (cells_in claims.seat.me.own.held) place 0)
          (cells_in claims.seat.me.own.held) ks)
          ++ take 0 (drop 0 (at_cell change
          (slice_index_or (cells_in claims.seat.me.own.held) place 0)
          (cells_in claims.seat.me.own.held) ks))) knows_two
          ∙ first.is;
    }
