-- The ends of promotion and of a collection: what stays held, and where a claim found the heap
-- full. That nothing is marked between two calls is the promoter's invariant (specs/Ready).
use Rattle.std.proofs.Common.{◌≡◌, ◌<◌, ◌≤◌, ◌+◌, ◌⊎◌, ℕ, zero, suc, List, [], ◌∷◌, ◌++◌, All, length}
use Rattle.std.proofs.Common.{map, take, drop, refl, sym, ◌∙◌, ap, subst, arith, inl, inr, ⊎_elim}
use Rattle.std.proofs.Common.{length-append, true}
use Rattle.std.specs.Prelude.{slice_index_or}
use Rattle.std.proofs.lemmas.List.{append-nil, length-map}
use Rattle.std.proofs.Math.Seq.{take-append_seam}
use Rattle.core_machine.specs.declared.events.Event.TheVariants as event
use Rattle.core_machine.specs.declared.events.Found.TheVariants as finds
use Rattle.core_machine.specs.declared.events.Taken.{Taken}
use Rattle.heap_rule.specs.Asks.{MayKeep}
use Rattle.heap_rule.specs.Facts.{is_term}
use Rattle.heap_rule.specs.Lore.{known_at}
use Rattle.heap_rule.specs.declared.known.Known.{Known}
use Rattle.heap_rule.specs.declared.known.Known.TheVariants as knows
use Rattle.minor_heap.specs.declared.fields.MinorField.{MinorField}
use Rattle.minor_heap.specs.declared.fields.MinorRef.{MinorRef}
use Rattle.mutator_events.proofs.HeldCells.{cells_many}
use Rattle.mutator_seat.specs.declared.full.HeapFull.{HeapFull}
use Rattle.mutator_seat.specs.Bound.{Bound, held_cells, takes}
use Rattle.mutator_seat.specs.Claims.{anything}
use Rattle.promotion.specs.Copying.{Appended, Grown, Halted}
use Rattle.promotion.specs.Promoting.{Adds, ClaimsFor, Collected, HasRefusal, Promoted, Refused}
use Rattle.promotion.specs.Promoting.{Stays, knows_term}
use Rattle.promotion.specs.Linking.{AreKeeping, KeepsCopies, LinksNothing}
use Rattle.promotion.proofs.Growing.{grown_known, grown_many, records_of}
use Rattle.promotion.proofs.Holding.{claims_kept, held_kept, keep_adds, keep_stays, kept_tail}
use Rattle.promotion.proofs.Holding.{known_kept, take_one}
use Rattle.promotion.proofs.Knowing.{term_there}
use Rattle.promotion.proofs.Linked.{Copying, Keeping, copies_kept, keeping_event, keeping_less}
use Rattle.promotion.proofs.Linked.{keeping_then, links_nothing}
use Rattle.promotion.proofs.Stretching.{adds_anyhow, adds_event, adds_then, any_then, stays_then}
use Rattle.promotion.proofs.Stretching.{within_on}

nil_of : {A : Type 0} (xs : List A) → length xs ≡ 0 → xs ≡ []
nil_of [] is = refl
nil_of (x ∷ xs) is = absurd (omega (arith, is))

none_or_some : (n : ℕ) → (n ≡ 0) ⊎ (0 < n)
none_or_some zero = inl refl
none_or_some (suc n) = inr (omega arith)

front_of : {A : Type 0} (xs ys : List A) (n : ℕ) → n ≡ length xs → take n (xs ++ ys) ≡ xs
front_of xs ys n is = ap (λ (k : ℕ). take k (xs ++ ys)) is ∙ take-append_seam xs ys

map_same : {A B : Type 0} (f h : A → B) (xs : List A) → All (λ x. f x ≡ h x) xs
    → map f xs ≡ map h xs
map_same f h [] same = refl
map_same f h (x ∷ xs) same =
    λ i. same 0 x (omega arith) i
    ∷ map_same f h xs (λ k d lt. same (suc k) d (omega (arith, lt))) i

module _ {P : Type 0} where
  pub claims_still : (a b c : Bound P) (records : List (List MinorField)) (from : List MinorRef)
      → c.seat.me.own.claims ≡ b.seat.me.own.claims → ClaimsFor a records from b
      → ClaimsFor a records from c
  claims_still a b c records from same claims = record {
    copied = claims.copied;
    reached = claims.reached;
    claims = same ∙ claims.claims;
  }

  -- a place that is known as a record is held
  pub held_there : (F : List Taken → Type 0) (a b : Bound P) (g : Grown F a b) (place : ℕ)
      → length (held_cells a) ≡ length a.seat.me.known
      → is_term (known_at b.seat.me.known place) ≡ true → place < length b.seat.me.own.held
  held_there F a b g place fit is =
      omega (
        arith,
        term_there b.seat.me.known place is,
        grown_known F a b g,
        grown_many F a b g,
        fit,
        cells_many a.seat.me.own.held,
      )

  -- Promotion.

  pub may_promote : (a b : Bound P) (g : Grown anything a b) (n place records : ℕ)
      → a.seat.me.presence.inside ≡ true → 1 ≤ n → n ≡ length a.seat.me.own.held
      → n + records ≤ a.seat.me.room → 0 < records
      → length (held_cells a) ≡ length a.seat.me.known
      → is_term (known_at b.seat.me.known place) ≡ true → MayKeep b.seat.me n place 1
  may_promote a b g n place records inside some n_is room more fit is = record {
    inside = g.stays.inside ∙ inside;
    some = some;
    kept = omega (arith, n_is, grown_many anything a b g);
    copied = let lt = held_there anything a b g place fit is in omega (arith, lt);
    room = omega (arith, room, more, g.stays.room);
  }

  pub promoted_as : (a b c : Bound P) (g : Grown anything a b) (records : List (List MinorField))
      (r : MinorRef) (n place : ℕ) → n ≡ length a.seat.me.own.held
      → length (held_cells a) ≡ length a.seat.me.known
      → known_at b.seat.me.known place ≡ knows_term a records r
      → ClaimsFor a records (r ∷ []) b
      → c ≡ takes b (event.Keep b.seat.me.number n place 1) (finds.Presence b.seat.me.presence)
      → Promoted a records r c
  promoted_as a b c g records r n place n_is fit at claims told =
      let there = term_there b.seat.me.known place (ap is_term at) in
      let held_lt : place < length (held_cells b) =
      omega (
        arith,
        held_there anything a b g place fit (ap is_term at),
        cells_many b.seat.me.own.held,
      ) in
      record {
        cell = slice_index_or (held_cells b) place 0;
        held = held_kept b c n place 1 told
            ∙ (λ i. (ap (λ (cs : List ℕ). take n cs) g.held
            ∙ front_of (held_cells a) g.cells n
            (n_is ∙ sym (cells_many a.seat.me.own.held))) i
            ++ take_one (held_cells b) place 0 held_lt i);
        known = known_kept b c n place 1 told
            ∙ (λ i. (ap (λ (ks : List Known). take n ks) g.known
            ∙ front_of a.seat.me.known (records_of g.terms) n
            (n_is ∙ sym (cells_many a.seat.me.own.held) ∙ fit)) i
            ++ (take_one b.seat.me.known place knows.Nothing there
            ∙ ap (λ (k : Known). k ∷ []) at) i);
        claims = claims_still a b c records (r ∷ []) (claims_kept b c n place 1 told) claims;
        stays = keep_stays a b c n place 1 g.stays told;
        adds = keep_adds a b c n place 1 g.adds told;
      }

  pub promoted_links : (a b c : Bound P) (g : Grown anything a b) (n place : ℕ)
      → n ≡ length a.seat.me.own.held → Copying (length a.seat.me.own.held) a b
      → c ≡ takes b (event.Keep b.seat.me.number n place 1) (finds.Presence b.seat.me.presence)
      → Adds (KeepsCopies a.seat.me.number (length a.seat.me.own.held)
      (length a.seat.me.own.held)) a c
  promoted_links a b c g n place n_is so told =
      let held = length a.seat.me.own.held in
      copies_kept a.seat.me.number held held a b c so
      (keeping_event a.seat.me.number held b c n place 1 g.stays.number (omega (arith, n_is)) told)

  -- A collection.

  pub may_collect : (a b d : Bound P) (g : Grown anything a b) (cells : List ℕ)
      (known : List Known) (so : Appended b cells known d) (base first count records : ℕ)
      → a.seat.me.presence.inside ≡ true → 1 ≤ base → base ≤ length a.seat.me.own.held
      → first ≡ length b.seat.me.own.held → count ≡ length cells
      → length a.seat.me.own.held + records + count ≤ a.seat.me.room
      → MayKeep d.seat.me base first count
  may_collect a b d g cells known so base first count records inside some within first_is count_is
      room =
      let many : length d.seat.me.own.held ≡ length b.seat.me.own.held + length cells =
      sym (cells_many d.seat.me.own.held) ∙ ap (λ (cs : List ℕ). length cs) so.held
      ∙ length-append (held_cells b) cells
      ∙ ap (λ (k : ℕ). k + length cells) (cells_many b.seat.me.own.held) in
      record {
        inside = so.stays.inside ∙ g.stays.inside ∙ inside;
        some = some;
        kept = omega (arith, within, many, grown_many anything a b g);
        copied = omega (arith, first_is, count_is, many);
        room = omega (arith, within, room, so.stays.room, g.stays.room);
      }

  known_left : (a b d : Bound P) (g : Grown anything a b) (cells : List ℕ) (known : List Known)
      (so : Appended b cells known d) (base first count : ℕ) → length known ≡ count
      → base ≤ length a.seat.me.own.held → first ≡ length b.seat.me.own.held
      → (count ≡ 0 → length (held_cells b) ≡ length (held_cells a))
      → (0 < count → length (held_cells a) ≡ length a.seat.me.known)
      → take base d.seat.me.known ++ take count (drop first d.seat.me.known)
      ≡ take base a.seat.me.known ++ known
  known_left a b d g cells known so base first count count_is within first_is none fit =
      ⊎_elim
      (λ (zero_is : count ≡ 0).
      let no_cells : length g.cells ≡ 0 =
      omega (
        arith,
        none zero_is,
        cells_many a.seat.me.own.held,
        cells_many b.seat.me.own.held,
        grown_many anything a b g,
      ) in
      let no_terms : records_of g.terms ≡ [] =
      ap records_of (nil_of g.terms (g.many ∙ no_cells)) in
      let no_known : known ≡ [] = nil_of known (count_is ∙ zero_is) in
      let all : d.seat.me.known ≡ a.seat.me.known =
      so.known_is ∙ ap (λ (ks : List Known). b.seat.me.known ++ ks) no_known
      ∙ append-nil b.seat.me.known ∙ g.known
      ∙ ap (λ (ks : List Known). a.seat.me.known ++ ks) no_terms
      ∙ append-nil a.seat.me.known in
      (λ i. take base (all i) ++ take (zero_is i) (drop first d.seat.me.known))
      ∙ ap (λ (ks : List Known). take base a.seat.me.known ++ ks) (sym no_known))
      (λ (some : 0 < count).
      let fits = fit some in
      ap (λ (ks : List Known). take base ks ++ take count (drop first ks))
      (so.known_is ∙ ap (λ (ks : List Known). ks ++ known) g.known)
      ∙ kept_tail a.seat.me.known (records_of g.terms) known base first count
      (omega (arith, within, fits, cells_many a.seat.me.own.held))
      (let e : first ≡ length (a.seat.me.known ++ records_of g.terms) =
      omega (
        arith,
        first_is,
        fits,
        cells_many a.seat.me.own.held,
        grown_many anything a b g,
        grown_known anything a b g,
        ap (λ (ks : List Known). length ks) g.known,
      ) in e)
      (sym count_is))
      (none_or_some count)

  pub collected_as : (a b d e : Bound P) (g : Grown anything a b)
      (records : List (List MinorField)) (roots : List MinorRef) (place_of : MinorRef → ℕ)
      (base first count : ℕ)
      → Appended b (map (λ r. slice_index_or (held_cells b) (place_of r) 0) roots)
      (map (λ r. known_at b.seat.me.known (place_of r)) roots) d
      → base ≤ length a.seat.me.own.held → first ≡ length b.seat.me.own.held
      → count ≡ length roots
      → (length roots ≡ 0 → length (held_cells b) ≡ length (held_cells a))
      → (0 < length roots → length (held_cells a) ≡ length a.seat.me.known)
      → All (λ (r : MinorRef). known_at b.seat.me.known (place_of r) ≡ knows_term a records r) roots
      → ClaimsFor a records roots b
      → e ≡ takes d (event.Keep d.seat.me.number base first count)
      (finds.Presence d.seat.me.presence)
      → Collected a records roots base e
  collected_as a b d e g records roots place_of base first count so within first_is count_is none
      fit at claims told =
      let cell : MinorRef → ℕ = λ r. slice_index_or (held_cells b) (place_of r) 0 in
      let known : MinorRef → Known = λ r. known_at b.seat.me.known (place_of r) in
      let cells_are : count ≡ length (map cell roots) = count_is ∙ sym (length-map roots cell) in
      let knowns_are : length (map known roots) ≡ count =
      length-map roots known ∙ sym count_is in
      let first_cells : first ≡ length (held_cells a ++ g.cells) =
      first_is ∙ sym (cells_many b.seat.me.own.held) ∙ ap (λ (cs : List ℕ). length cs) g.held in
      record {
        cell = cell;
        held = held_kept d e base first count told
            ∙ ap (λ (cs : List ℕ). take base cs ++ take count (drop first cs))
            (so.held ∙ ap (λ (cs : List ℕ). cs ++ map cell roots) g.held)
            ∙ kept_tail (held_cells a) g.cells (map cell roots) base first count
            (omega (arith, within, cells_many a.seat.me.own.held)) first_cells cells_are;
        known = known_kept d e base first count told
            ∙ known_left a b d g (map cell roots) (map known roots) so base first count knowns_are
            within first_is (λ zero_is. none (sym count_is ∙ zero_is))
            (λ some. fit (subst (λ (n : ℕ). 0 < n) count_is some))
            ∙ ap (λ (ks : List Known). take base a.seat.me.known ++ ks)
            (map_same known (knows_term a records) roots at);
        claims = claims_still a b e records roots
            (claims_kept d e base first count told ∙ so.claims) claims;
        stays = keep_stays a d e base first count (stays_then a b d g.stays so.stays) told;
        adds = keep_adds a d e base first count
            (any_then a b d g.adds
            (adds_anyhow (AreKeeping b.seat.me.number (length b.seat.me.own.held)) b d so.adds))
            told;
      }

  -- what stays held, of the first places at least so many
  pub collected_keeps : (a b d e : Bound P) (g : Grown anything a b) (cells : List ℕ)
      (known : List Known) (so : Appended b cells known d) (least base first count : ℕ)
      → least ≤ base → least ≤ length a.seat.me.own.held
      → e ≡ takes d (event.Keep d.seat.me.number base first count)
      (finds.Presence d.seat.me.presence) → Keeping a.seat.me.number least b e
  collected_keeps a b d e g cells known so least base first count few within told =
      keeping_then a.seat.me.number least b d e
      (subst (λ (k : ℕ). Keeping k least b d) g.stays.number
      (keeping_less b.seat.me.number least (length b.seat.me.own.held) b d
      (omega (arith, within, grown_many anything a b g)) so.adds))
      (keeping_event a.seat.me.number least d e base first count
      (so.stays.number ∙ g.stays.number) few told)

  pub collected_links : (a b d e : Bound P) (g : Grown anything a b) (cells : List ℕ)
      (known : List Known) (so : Appended b cells known d) (base first count : ℕ)
      → base ≤ length a.seat.me.own.held → Copying (length a.seat.me.own.held) a b
      → e ≡ takes d (event.Keep d.seat.me.number base first count)
      (finds.Presence d.seat.me.presence)
      → Adds (KeepsCopies a.seat.me.number base (length a.seat.me.own.held)) a e
  collected_links a b d e g cells known so base first count within copying told =
      copies_kept a.seat.me.number base (length a.seat.me.own.held) a b e copying
      (collected_keeps a b d e g cells known so base base first count (omega arith) within told)

  -- Where a claim found the heap full.

  pub refused_as : (a b c : Bound P) (full : HeapFull) (n : ℕ) → Halted a full b
      → n ≡ length a.seat.me.own.held → (length b.seat.me.own.held ≡ n → c ≡ b)
      → (n < length b.seat.me.own.held
      → c ≡ takes b (event.Keep b.seat.me.number n 0 0) (finds.Presence b.seat.me.presence))
      → Refused a full c
  refused_as a b c full n g n_is same cut =
      let F = HasRefusal a full in
      let many = grown_many F a b g in
      ⊎_elim
      (λ (none : length g.cells ≡ 0).
      let is : c ≡ b = same (omega (arith, n_is, none, many)) in
      record {
        held = ap (λ (m : Bound P). held_cells m) is ∙ g.held
            ∙ ap (λ (cs : List ℕ). held_cells a ++ cs) (nil_of g.cells none)
            ∙ append-nil (held_cells a);
        known = ap (λ (m : Bound P). m.seat.me.known) is ∙ g.known
            ∙ ap (λ (ks : List Known). a.seat.me.known ++ ks)
            (ap records_of (nil_of g.terms (g.many ∙ none)))
            ∙ append-nil a.seat.me.known;
        stays = subst (λ (m : Bound P). Stays a m) (sym is) g.stays;
        adds = subst (λ (m : Bound P). Adds F a m) (sym is) g.adds;
      })
      (λ (some : 0 < length g.cells).
      let told = cut (omega (arith, n_is, some, many)) in
      let fits = g.fit some in
      record {
        held = held_kept b c n 0 0 told ∙ append-nil (take n (held_cells b))
            ∙ ap (λ (cs : List ℕ). take n cs) g.held
            ∙ front_of (held_cells a) g.cells n (n_is ∙ sym (cells_many a.seat.me.own.held));
        known = known_kept b c n 0 0 told ∙ append-nil (take n b.seat.me.known)
            ∙ ap (λ (ks : List Known). take n ks) g.known
            ∙ front_of a.seat.me.known (records_of g.terms) n
            (n_is ∙ sym (cells_many a.seat.me.own.held) ∙ fits);
        stays = keep_stays a b c n 0 0 g.stays told;
        adds = adds_then F anything F a b c (λ xs ys found any. within_on _ xs ys found) g.adds
            (adds_event b c (event.Keep b.seat.me.number n 0 0)
            (finds.Presence b.seat.me.presence) told);
      })
      (none_or_some (length g.cells))

  pub refused_links : (a b c : Bound P) (full : HeapFull) (n : ℕ) → Halted a full b
      → Copying (length a.seat.me.own.held) a b → n ≡ length a.seat.me.own.held
      → (length b.seat.me.own.held ≡ n → c ≡ b)
      → (n < length b.seat.me.own.held
      → c ≡ takes b (event.Keep b.seat.me.number n 0 0) (finds.Presence b.seat.me.presence))
      → Adds (LinksNothing a.seat.me.number (length a.seat.me.own.held)) a c
  refused_links a b c full n g so n_is same cut =
      subst (λ (k : ℕ). Adds (LinksNothing a.seat.me.number k) a c) n_is
      (links_nothing n a b c g.stays.number
      (omega (arith, n_is, grown_many (HasRefusal a full) a b g))
      (subst (λ (k : ℕ). Copying k a b) (sym n_is) so) same cut)
