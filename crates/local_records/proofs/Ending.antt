-- The roots that are cells are held after the first places, in order.
use Rattle.std.proofs.Common.{◌≡◌, ◌<◌, ◌≤◌, ◌+◌, ◌++◌, ◌∷◌, ◌∙◌, ℕ, zero, suc, List, [], All}
use Rattle.std.proofs.Common.{length}
use Rattle.std.proofs.Common.{Bool, map, take, true, refl, sym, ap, subst, arith, length-append}
use Rattle.std.specs.Prelude.{drop, slice_index_or}
use Rattle.std.proofs.lemmas.List.{append-nil, get_or_push, length-map, length-take-le}
use Rattle.std.proofs.lemmas.List.{take-append-le}
use Rattle.std.proofs.lemmas.List.Elements.{All-cons, All-nil}
use Rattle.std.proofs.Math.Seq.{take-length}
use Rattle.core_machine.specs.declared.events.Event.TheVariants as event
use Rattle.core_machine.specs.declared.events.Found.TheVariants as finds
use Rattle.heap_rule.specs.Asks.{MayKeep}
use Rattle.heap_rule.specs.Facts.{is_term}
use Rattle.heap_rule.specs.Lore.{known_at}
use Rattle.heap_rule.specs.declared.known.Known.{Known}
use Rattle.minor_heap.specs.declared.fields.MinorField.{MinorField}
use Rattle.minor_heap.specs.declared.fields.MinorRef.{MinorRef}
use Rattle.mutator_events.proofs.HeldCells.{cells_many}
use Rattle.mutator_seat.specs.Bound.{Bound, held_cells, takes}
use Rattle.promotion.specs.Promoting.{knows_term}
use Rattle.promotion.proofs.Finishing.{may_collect}
use Rattle.promotion.proofs.Growing.{grown_none}
use Rattle.promotion.proofs.Holding.{appended_next, claims_kept, held_kept, keep_stays, kept_tail}
use Rattle.promotion.proofs.Holding.{known_kept}
use Rattle.promotion.proofs.Knowing.{term_there}
use Rattle.local_references.specs.declared.roots.Root.{Root}
use Rattle.local_references.specs.declared.roots.Root.TheVariants as root
use Rattle.local_references.specs.Roots.{AllStand, RootStands, private_of, rank}
use Rattle.local_references.specs.Roots.{slot_at}
use Rattle.local_references.proofs.Ranks.{first_ref, private_at, rank_below}
use Rattle.record_copying.specs.Copies.{AreCopies, IsCopied}
use Rattle.local_records.specs.Local.{AreLocal, IsRootBelow}
use Rattle.local_records.specs.Settling.{HoldsAgain, RootsSettled, cell_count}
use Rattle.local_records.specs.Settling.{knows_roots, places_of}
use Rattle.local_records.proofs.Keeping.{local_copies}
use Rattle.local_records.proofs.Places.{places_many}

next_places_all : (places : List ℕ) (roots : List Root) (k : ℕ) → k < length roots
    → places_of places (take (suc k) roots)
    ≡ places_of places (take k roots) ++ places_of places (slot_at roots k ∷ [])
next_places_all places [] k lt = absurd (omega (arith, lt))
next_places_all places (x ∷ roots) zero lt = refl
next_places_all places (root.Null ∷ roots) (suc k) lt =
    next_places_all places roots k (omega (arith, lt))
next_places_all places (root.Num n ∷ roots) (suc k) lt =
    next_places_all places roots k (omega (arith, lt))
next_places_all places (root.Private r ∷ roots) (suc k) lt =
    ap (λ (ps : List ℕ). slice_index_or places r.number 0 ∷ ps)
    (next_places_all places roots k (omega (arith, lt)))
next_places_all places (root.Shared place ∷ roots) (suc k) lt =
    ap (λ (ps : List ℕ). place ∷ ps) (next_places_all places roots k (omega (arith, lt)))

-- one more root, and the places that it adds
pub next_places : (places : List ℕ) (roots : List Root) (k : ℕ) (more : List ℕ) → k < length roots
    → places_of places (slot_at roots k ∷ []) ≡ more
    → places_of places (take (k + 1) roots) ≡ places_of places (take k roots) ++ more
next_places places roots k more lt is =
    ap (λ (n : ℕ). places_of places (take n roots)) (let e : k + 1 ≡ suc k = omega arith in e)
    ∙ next_places_all places roots k lt
    ∙ ap (λ (ps : List ℕ). places_of places (take k roots) ++ ps) is

-- a root is one place at most
pub places_few : (places : List ℕ) (roots : List Root)
    → length (places_of places roots) ≤ length roots
places_few places [] = omega arith
places_few places (root.Null ∷ roots) = let few = places_few places roots in omega (arith, few)
places_few places (root.Num n ∷ roots) = let few = places_few places roots in omega (arith, few)
places_few places (root.Private r ∷ roots) =
    let few = places_few places roots in omega (arith, few)
places_few places (root.Shared place ∷ roots) =
    let few = places_few places roots in omega (arith, few)

-- what is so of each private root is so of this one
pub of_private : (Q : MinorRef → Type 0) (roots : List Root) (k : ℕ) (r : MinorRef)
    → All Q (private_of roots) → slot_at roots k ≡ root.Private r → Q r
of_private Q roots k r all is =
    subst Q (private_at roots k r is) (all (rank roots k) first_ref (rank_below roots k r is))

module _ {P : Type 0} where
  abbrev pub cell_at : Bound P → ℕ → ℕ
  cell_at m place = slice_index_or (held_cells m) place 0

  abbrev pub known_there : Bound P → ℕ → Known
  known_there m place = known_at m.seat.me.known place

  pub again_more : (a b c : Bound P) (places : List ℕ) (place n : ℕ)
      → length a.seat.me.own.held ≡ length a.seat.me.known → place < length a.seat.me.own.held
      → n ≡ length b.seat.me.own.held → HoldsAgain a places b
      → c ≡ takes b (event.Keep b.seat.me.number n place 1) (finds.Presence b.seat.me.presence)
      → HoldsAgain a (places ++ place ∷ []) c
  again_more a b c places place n fit lt n_is so told =
      let all : List ℕ = places ++ place ∷ [] in
      let i : ℕ = length places in
      let many = length-append places (place ∷ []) in
      let before : take i all ≡ places =
      take-append-le i places (place ∷ []) (omega arith) ∙ take-length places in
      let after : take (i + 1) all ≡ all =
      ap (λ (k : ℕ). take k all) (let e : i + 1 ≡ length all = omega (arith, many) in e)
      ∙ take-length all in
      let cells = cells_many a.seat.me.own.held in
      subst (λ (ps : List ℕ). HoldsAgain a ps c) after
      (appended_next a b c all 0 place (λ p. p) i n (cells ∙ fit) (omega (arith, lt, cells))
      (omega (arith, many)) (get_or_push places place 0 i refl) n_is
      (subst (λ (ps : List ℕ). HoldsAgain a ps b) (sym before) so) told)

  pub again_many : (a d : Bound P) (places : List ℕ) → HoldsAgain a places d
      → length d.seat.me.own.held ≡ length a.seat.me.own.held + length places
  again_many a d places so =
      sym (cells_many d.seat.me.own.held) ∙ ap (λ (cs : List ℕ). length cs) so.held
      ∙ length-append (held_cells a) (map (cell_at a) places)
      ∙ (let first = cells_many a.seat.me.own.held in
      let more = length-map places (cell_at a) in omega (arith, first, more))

  -- there is a place for one more
  pub may_hold : (a b : Bound P) (places : List ℕ) (most place n : ℕ)
      → a.seat.me.presence.inside ≡ true → 1 ≤ length a.seat.me.own.held
      → length a.seat.me.own.held + most ≤ a.seat.me.room → length places < most
      → place < length a.seat.me.own.held → n ≡ length b.seat.me.own.held
      → HoldsAgain a places b → MayKeep b.seat.me n place 1
  may_hold a b places most place n inside some room less there n_is so =
      let many = again_many a b places so in
      record {
        inside = so.stays.inside ∙ inside;
        some = omega (arith, many, some, n_is);
        kept = omega (arith, n_is);
        copied = omega (arith, many, there);
        room = omega (arith, n_is, many, room, less, so.stays.room);
      }

  module _ (a d : Bound P) (places : List ℕ) (so : HoldsAgain a places d) (base first count : ℕ)
      (within : base ≤ length a.seat.me.own.held) (first_is : first ≡ length a.seat.me.own.held)
      (count_is : count ≡ length places) where
    pub may_end : a.seat.me.presence.inside ≡ true → 1 ≤ base
        → length a.seat.me.own.held + length places ≤ a.seat.me.room
        → MayKeep d.seat.me base first count
    may_end inside some room =
        may_collect a a d (grown_none a).grown (map (cell_at a) places)
        (map (known_there a) places) so base first count 0 inside some within first_is
        (count_is ∙ sym (length-map places (cell_at a))) (omega (arith, room, count_is))

    tail : {A : Type 0} (xs zs ws : List A) → ws ≡ xs ++ zs → base ≤ length xs
        → first ≡ length xs → count ≡ length zs
        → take base ws ++ take count (drop first ws) ≡ take base xs ++ zs
    tail xs zs ws is fits first_at many =
        ap (λ (vs : List _). take base vs ++ take count (drop first vs))
        (is ∙ ap (λ (vs : List _). vs ++ zs) (sym (append-nil xs)))
        ∙ kept_tail xs [] zs base first count fits
        (first_at ∙ ap (λ (vs : List _). length vs) (sym (append-nil xs))) many

    pub ends_as : (e : Bound P) (records : List (List MinorField)) (copies : List ℕ)
        (roots : List Root) → places ≡ places_of copies roots
        → map (known_there a) places ≡ knows_roots a records roots
        → length a.seat.me.own.held ≡ length a.seat.me.known
        → e ≡ takes d (event.Keep d.seat.me.number base first count)
        (finds.Presence d.seat.me.presence)
        → RootsSettled a records copies roots base e
    ends_as e records copies roots places_are knows fit told = record {
      held = held_kept d e base first count told
          ∙ tail (held_cells a) (map (cell_at a) places) (held_cells d) so.held
          (let cells = cells_many a.seat.me.own.held in omega (arith, within, cells))
          (first_is ∙ sym (cells_many a.seat.me.own.held))
          (count_is ∙ sym (length-map places (cell_at a)))
          ∙ ap (λ (ps : List ℕ). take base (held_cells a) ++ map (cell_at a) ps) places_are;
      known = known_kept d e base first count told
          ∙ tail a.seat.me.known (map (known_there a) places) d.seat.me.known so.known_is
          (omega (arith, within, fit)) (first_is ∙ fit)
          (count_is ∙ sym (length-map places (known_there a)))
          ∙ ap (λ (ks : List Known). take base a.seat.me.known ++ ks) knows;
      claims = claims_kept d e base first count told ∙ so.claims;
      stays = keep_stays a d e base first count so.stays told;
    }

  -- What is known of the places of roots.

  pub knows_same : (a : Bound P) (records : List (List MinorField)) (places : List ℕ)
      (roots : List Root)
      → ((k : ℕ) (r : MinorRef) → slot_at roots k ≡ root.Private r
      → known_at a.seat.me.known (slice_index_or places r.number 0) ≡ knows_term a records r)
      → map (known_there a) (places_of places roots) ≡ knows_roots a records roots
  knows_same a records places [] at = refl
  knows_same a records places (root.Null ∷ roots) at =
      knows_same a records places roots (λ k. at (suc k))
  knows_same a records places (root.Num n ∷ roots) at =
      knows_same a records places roots (λ k. at (suc k))
  knows_same a records places (root.Private r ∷ roots) at =
      λ i. at 0 r refl i ∷ knows_same a records places roots (λ k. at (suc k)) i
  knows_same a records places (root.Shared place ∷ roots) at =
      ap (λ (ks : List Known). known_at a.seat.me.known place ∷ ks)
      (knows_same a records places roots (λ k. at (suc k)))

  pub known_copy : (a : Bound P) (records : List (List MinorField)) (copied : List Bool)
      (places : List ℕ) (r : MinorRef) → AreCopies a.seat.me.known records copied places
      → r.number < length records → IsCopied copied r
      → known_at a.seat.me.known (slice_index_or places r.number 0) ≡ knows_term a records r
  known_copy a records copied places r copies stands is = copies.denote r.number stands is

-- a private root is a record that stands
pub private_stands : (records : List (List MinorField)) (x : Root) (r : MinorRef)
    → RootStands records x → x ≡ root.Private r → r.number < length records
private_stands records x r stands is = subst (λ (y : Root). RootStands records y) is stands

-- how many places are held then
pub end_many : {P : Type 0} (a e : Bound P) (records : List (List MinorField)) (copies : List ℕ)
    (roots : List Root) (base : ℕ) → RootsSettled a records copies roots base e
    → base ≤ length a.seat.me.own.held → length e.seat.me.own.held ≡ base + cell_count roots
end_many a e records copies roots base so within =
    let cells = cells_many a.seat.me.own.held in
    let first : length (take base (held_cells a)) ≡ base =
    length-take-le base (held_cells a) (omega (arith, cells, within)) in
    let more = length-map (places_of copies roots) (cell_at a) in
    let many = places_many copies roots in
    sym (cells_many e.seat.me.own.held) ∙ ap (λ (cs : List ℕ). length cs) so.held
    ∙ length-append (take base (held_cells a)) (map (cell_at a) (places_of copies roots))
    ∙ (omega (arith, first, more, many))

-- the place of a root is one of those that are held
pub root_there : (known : List Known) (records : List (List MinorField)) (copied : List Bool)
    (places : List ℕ) (named : ℕ) (x : Root) → AreCopies known records copied places
    → named ≤ length known → RootStands records x
    → ((r : MinorRef) → x ≡ root.Private r → IsCopied copied r) → IsRootBelow named x
    → All (λ (p : ℕ). p < length known) (places_of places (x ∷ []))
root_there known records copied places named root.Null copies le stands is below =
    All-nil (λ (p : ℕ). p < length known)
root_there known records copied places named (root.Num n) copies le stands is below =
    All-nil (λ (p : ℕ). p < length known)
root_there known records copied places named (root.Private r) copies le stands is below =
    All-cons (λ (p : ℕ). p < length known) (slice_index_or places r.number 0) []
    (term_there known (slice_index_or places r.number 0)
    (ap is_term (copies.denote r.number stands (is r refl))))
    (All-nil (λ (p : ℕ). p < length known))
root_there known records copied places named (root.Shared place) copies le stands is below =
    All-cons (λ (p : ℕ). p < length known) place [] (omega (arith, le, below))
    (All-nil (λ (p : ℕ). p < length known))

-- what the calls of a settling leave
pub settles : {P : Type 0} (a d e : Bound P) (records : List (List MinorField))
    (copied : List Bool) (copies : List ℕ) (roots : List Root) (named base first count : ℕ)
    → AreLocal a.seat.me.known named records copied copies roots → AllStand records roots
    → All (IsCopied copied) (private_of roots) → HoldsAgain a (places_of copies roots) d
    → base ≤ length a.seat.me.own.held → first ≡ length a.seat.me.own.held
    → count ≡ length (places_of copies roots)
    → length a.seat.me.own.held ≡ length a.seat.me.known
    → e ≡ takes d (event.Keep d.seat.me.number base first count)
    (finds.Presence d.seat.me.presence)
    → RootsSettled a records copies roots base e
settles a d e records copied copies roots named base first count local stand done so within
    first_is count_is fit told =
    ends_as a d (places_of copies roots) so base first count within first_is count_is e records
    copies roots refl
    (knows_same a records copies roots (λ k r is. known_copy a records copied copies r
    (local_copies a.seat.me.known named records copied copies roots local)
    (private_stands records (slot_at roots k) r (stand k) is)
    (of_private (IsCopied copied) roots k r done is)))
    fit told
