-- Choosing what stays held: the front, and copies of places after it.
use Rattle.std.proofs.Common.{◌≡◌, ◌<◌, ◌≤◌, ◌+◌, ℕ, zero, suc, List, [], ◌∷◌, ◌++◌, length, map, take}
use Rattle.std.proofs.Common.{drop, refl, sym, ◌∙◌, ap, subst, arith, length-append}
use Rattle.std.specs.Prelude.{slice_index_or}
use Rattle.std.proofs.lemmas.List.{append_assoc, append-nil, length-map, map-append}
use Rattle.std.proofs.lemmas.List.{take-append-le}
use Rattle.std.proofs.Math.ListN.{get_or-append}
use Rattle.std.proofs.Math.Seq.{drop-append_seam, take-length, take-suc}
use Rattle.core_machine.specs.declared.events.Event.TheVariants as event
use Rattle.core_machine.specs.declared.events.Found.TheVariants as finds
use Rattle.heap_rule.specs.Lore.{known_at}
use Rattle.heap_rule.specs.declared.known.Known.{Known}
use Rattle.heap_rule.specs.declared.known.Known.TheVariants as knows
use Rattle.mutator_events.proofs.HeldCells.{cells_kept_are, cells_many}
use Rattle.mutator_seat.specs.Bound.{Bound, held_cells, takes}
use Rattle.mutator_seat.specs.Claims.{anything}
use Rattle.promotion.specs.Copying.{Appended}
use Rattle.promotion.specs.Promoting.{Adds, Stays}
use Rattle.promotion.proofs.Linked.{keeping_event, keeping_none, keeping_then}
use Rattle.promotion.proofs.Stretching.{adds_event, any_then, stays_event, stays_same}
use Rattle.promotion.proofs.Stretching.{stays_then}

pub take_one : {A : Type 0} (xs : List A) (p : ℕ) (d : A) → p < length xs
    → take 1 (drop p xs) ≡ slice_index_or xs p d ∷ []
take_one [] p d lt = absurd (omega (arith, lt))
take_one (x ∷ xs) zero d lt = refl
take_one (x ∷ xs) (suc p) d lt = take_one xs p d (omega (arith, lt))

-- one place of the front, once more at the end
pub kept_one : {A : Type 0} (xs ys : List A) (n p : ℕ) (d : A) → n ≡ length (xs ++ ys)
    → p < length xs
    → take n (xs ++ ys) ++ take 1 (drop p (xs ++ ys)) ≡ xs ++ (ys ++ slice_index_or xs p d ∷ [])
kept_one xs ys n p d is lt =
    let far : p < length (xs ++ ys) = omega (arith, lt, length-append xs ys) in
    (λ i. (ap (λ (k : ℕ). take k (xs ++ ys)) is ∙ take-length (xs ++ ys)) i
    ++ (take_one (xs ++ ys) p d far
    ∙ ap (λ (a : _). a ∷ []) (get_or-append xs ys d p lt)) i)
    ∙ append_assoc xs ys (slice_index_or xs p d ∷ [])

-- the front of the front, and all that comes after it
pub kept_tail : {A : Type 0} (xs ys zs : List A) (base first count : ℕ) → base ≤ length xs
    → first ≡ length (xs ++ ys) → count ≡ length zs
    → take base ((xs ++ ys) ++ zs) ++ take count (drop first ((xs ++ ys) ++ zs))
    ≡ take base xs ++ zs
kept_tail xs ys zs base first count within first_is count_is =
    let longer : base ≤ length (xs ++ ys) = omega (arith, within, length-append xs ys) in
    λ i. (take-append-le base (xs ++ ys) zs longer ∙ take-append-le base xs ys within) i
    ++ (ap (λ (k : ℕ). take count (drop k ((xs ++ ys) ++ zs))) first_is
    ∙ ap (λ (ws : List _). take count ws) (drop-append_seam (xs ++ ys) zs)
    ∙ ap (λ (k : ℕ). take k zs) count_is ∙ take-length zs) i

module _ {P : Type 0} where
  -- what a Keep leaves
  pub held_kept : (b c : Bound P) (n place count : ℕ)
      → c ≡ takes b (event.Keep b.seat.me.number n place count)
      (finds.Presence b.seat.me.presence)
      → held_cells c ≡ take n (held_cells b) ++ take count (drop place (held_cells b))
  held_kept b c n place count told =
      ap (λ (m : Bound P). held_cells m) told ∙ cells_kept_are b.seat.me.own.held n place count

  pub known_kept : (b c : Bound P) (n place count : ℕ)
      → c ≡ takes b (event.Keep b.seat.me.number n place count)
      (finds.Presence b.seat.me.presence)
      → c.seat.me.known ≡ take n b.seat.me.known ++ take count (drop place b.seat.me.known)
  known_kept b c n place count told = ap (λ (m : Bound P). m.seat.me.known) told

  pub claims_kept : (b c : Bound P) (n place count : ℕ)
      → c ≡ takes b (event.Keep b.seat.me.number n place count)
      (finds.Presence b.seat.me.presence)
      → c.seat.me.own.claims ≡ b.seat.me.own.claims
  claims_kept b c n place count told = ap (λ (m : Bound P). m.seat.me.own.claims) told

  pub keep_stays : (a b c : Bound P) (n place count : ℕ) → Stays a b
      → c ≡ takes b (event.Keep b.seat.me.number n place count)
      (finds.Presence b.seat.me.presence) → Stays a c
  keep_stays a b c n place count stays told =
      stays_then a b c stays
      (stays_event b c (event.Keep b.seat.me.number n place count)
      (finds.Presence b.seat.me.presence) told refl)

  pub keep_adds : (a b c : Bound P) (n place count : ℕ) → Adds anything a b
      → c ≡ takes b (event.Keep b.seat.me.number n place count)
      (finds.Presence b.seat.me.presence) → Adds anything a c
  keep_adds a b c n place count adds told =
      any_then a b c adds
      (adds_event b c (event.Keep b.seat.me.number n place count)
      (finds.Presence b.seat.me.presence) told)

  pub appended_none : (m : Bound P) → Appended m [] [] m
  appended_none m = record {
    held = sym (append-nil (held_cells m));
    known_is = sym (append-nil m.seat.me.known);
    claims = refl;
    stays = stays_same m;
    adds = keeping_none m.seat.me.number (length m.seat.me.own.held) m;
  }

  appended_more : (a b c : Bound P) (cells : List ℕ) (known : List Known) (n place : ℕ)
      → length cells ≡ length known → length (held_cells a) ≡ length a.seat.me.known
      → place < length (held_cells a) → n ≡ length b.seat.me.own.held → Appended a cells known b
      → c ≡ takes b (event.Keep b.seat.me.number n place 1) (finds.Presence b.seat.me.presence)
      → Appended a (cells ++ slice_index_or (held_cells a) place 0 ∷ [])
      (known ++ known_at a.seat.me.known place ∷ []) c
  appended_more a b c cells known n place many fit lt n_is so told =
      let held_many : n ≡ length (held_cells a ++ cells) =
      n_is ∙ sym (cells_many b.seat.me.own.held) ∙ ap (λ (cs : List ℕ). length cs) so.held in
      let known_many : n ≡ length (a.seat.me.known ++ known) =
      omega (
        arith,
        held_many,
        length-append (held_cells a) cells,
        length-append a.seat.me.known known,
        many,
        fit,
      ) in
      record {
        held = held_kept b c n place 1 told
            ∙ ap (λ (cs : List ℕ). take n cs ++ take 1 (drop place cs)) so.held
            ∙ kept_one (held_cells a) cells n place 0 held_many lt;
        known_is = known_kept b c n place 1 told
            ∙ ap (λ (ks : List Known). take n ks ++ take 1 (drop place ks)) so.known_is
            ∙ kept_one a.seat.me.known known n place knows.Nothing known_many
            (omega (arith, lt, fit));
        claims = claims_kept b c n place 1 told ∙ so.claims;
        stays = keep_stays a b c n place 1 so.stays told;
        adds = keeping_then a.seat.me.number (length a.seat.me.own.held) a b c so.adds
            (keeping_event a.seat.me.number (length a.seat.me.own.held) b c n place 1
            so.stays.number
            (omega (
              arith,
              held_many,
              length-append (held_cells a) cells,
              cells_many a.seat.me.own.held,
            ))
            told);
      }

  -- one root further
  pub appended_next : {A : Type 0} (a b c : Bound P) (roots : List A) (d r : A) (place_of : A → ℕ)
      (i n : ℕ) → length (held_cells a) ≡ length a.seat.me.known
      → place_of r < length (held_cells a) → i < length roots → slice_index_or roots i d ≡ r
      → n ≡ length b.seat.me.own.held
      → Appended a (map (λ x. slice_index_or (held_cells a) (place_of x) 0) (take i roots))
      (map (λ x. known_at a.seat.me.known (place_of x)) (take i roots)) b
      → c ≡ takes b (event.Keep b.seat.me.number n (place_of r) 1)
      (finds.Presence b.seat.me.presence)
      → Appended a (map (λ x. slice_index_or (held_cells a) (place_of x) 0) (take (i + 1) roots))
      (map (λ x. known_at a.seat.me.known (place_of x)) (take (i + 1) roots)) c
  appended_next a b c roots d r place_of i n fit lt there is n_is so told =
      let cell : _ → ℕ = λ x. slice_index_or (held_cells a) (place_of x) 0 in
      let known : _ → Known = λ x. known_at a.seat.me.known (place_of x) in
      let next : take (i + 1) roots ≡ take i roots ++ r ∷ [] =
      ap (λ (k : ℕ). take k roots) (let e : i + 1 ≡ suc i = omega arith in e)
      ∙ take-suc roots i d there ∙ ap (λ (x : _). take i roots ++ x ∷ []) is in
      let cells_next : map cell (take i roots) ++ cell r ∷ [] ≡ map cell (take (i + 1) roots) =
      sym (ap (map cell) next ∙ map-append cell (take i roots) (r ∷ [])) in
      let known_next : map known (take i roots) ++ known r ∷ [] ≡ map known (take (i + 1) roots) =
      sym (ap (map known) next ∙ map-append known (take i roots) (r ∷ [])) in
      let many : length (map cell (take i roots)) ≡ length (map known (take i roots)) =
      length-map (take i roots) cell ∙ sym (length-map (take i roots) known) in
      let more = appended_more a b c (map cell (take i roots)) (map known (take i roots)) n
      (place_of r) many fit lt n_is so told in
      subst (λ (cs : List ℕ). Appended a cs (map known (take (i + 1) roots)) c) cells_next
      (subst (λ (ks : List Known). Appended a (map cell (take i roots) ++ cell r ∷ []) ks c)
      known_next more)
