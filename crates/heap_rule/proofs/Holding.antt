-- The facts on lore after Begin, Keep and End: the maker holds the anchor alone, or fewer cells.
use Rattle.std.proofs.Common.{◌≡◌, ◌<◌, ◌==◌, ℕ, zero, suc, Bool, true, false, List, [], ◌∷◌}
use Rattle.std.proofs.Common.{◌++◌, length, take, drop}
use Rattle.std.proofs.Common.{not, arith, Option, Some, None, inl, inr, refl, sym, ◌∙◌, ap, subst}
use Rattle.std.proofs.Common.{if◌then◌else◌, eq-eqb}
use Rattle.std.proofs.Math.ListN.{set}
use Rattle.std.proofs.lemmas.Bool.{and_parts, or_cases, cases_eq, ne_eqb, eqb-true}
use Rattle.std.proofs.lemmas.List.{map-append}
use Rattle.cell_words.specs.declared.fields.Field.{Field}
use Rattle.cell_words.specs.declared.fields.Field.TheVariants as field
use Rattle.core_machine.specs.declared.events.Event.TheVariants as event
use Rattle.core_machine.specs.declared.places.Held.{Held}
use Rattle.core_machine.specs.InRange.{IsShaped}
use Rattle.core_machine.specs.Next.{can, after}
use Rattle.core_machine.specs.Operations.{is_in}
use Rattle.core_machine.specs.Own.{Own, begun, ended, keeping}
use Rattle.core_machine.specs.Places.{kept}
use Rattle.core_machine.specs.State.{State, field_in, field_of, held_of, own_of, presence_of}
use Rattle.dlg_core.specs.Consistent.{IsConsistent}
use Rattle.dlg_core.specs.Reachable.{Reachable, anchor, held, named}
use Rattle.dlg_core.proofs.HeldLists.{holds_kept}
use Rattle.core_machine.proofs.Conditions.{keep_needs}
use Rattle.core_machine.proofs.OneOperation.{beginner_there, inside_there}
use Rattle.dlg_core.proofs.Step.{consistent_after}
use Rattle.heap_rule.specs.declared.known.Known.{Known}
use Rattle.heap_rule.specs.declared.known.Known.TheVariants as knows
use Rattle.heap_rule.specs.Facts.{AllKnown, Facts, IsKnown}
use Rattle.heap_rule.specs.Lore.{Lore, cells_in, cells_of, fresh_held, fresh_still, has}
use Rattle.heap_rule.specs.Lore.{known_in, lore_after}
use Rattle.heap_rule.proofs.Carried.{SameAt, knows_on}
use Rattle.heap_rule.proofs.Lists.{all_append, all_drop, all_known, all_take, has_holds}
use Rattle.heap_rule.proofs.Lists.{reached_held}
use Rattle.heap_rule.proofs.Makers.{Made, cells_each, cells_mine, made_facts, maker_back}

-- the one cell of a list of one
has_one : (c x : ℕ) → has (c ∷ []) x ≡ true → c ≡ x
has_one c x h = elim (or_cases (c == x) false h) [
  | inl here ↦ eqb-true c x here
  | inr there ↦ absurd cc
]

not_inside : (b : Bool) → not b ≡ true → b ≡ false
not_inside false h = refl
not_inside true h = absurd cc

-- Begin.

module _ (fixed : ℕ
    → Bool) (s : State) (l : Lore) (i : ℕ) (shape : IsShaped s) (k : IsConsistent s)
    (facts : Facts fixed s l)
    (happens : can s (event.Begin i) ≡ true) where
  out : (presence_of s i).inside ≡ false
  out = not_inside (presence_of s i).inside (and_parts _ _ happens).0

  holds_nothing : held_of s i ≡ []
  holds_nothing = (k.mutators.out i out).0

  below : i < length s.owns
  below =
      let there = beginner_there s shape i happens in
      let fit = shape.mutators_fit in
      omega (arith, there, fit.owns_fit, fit.presences_fit)

  begin_back : (x : ℕ) → Reachable (after s (event.Begin i)) x → Reachable s x
  begin_back = maker_back s (after s (event.Begin i)) i (begun (own_of s i)) refl k below refl
      (λ x h. anchor (sym (has_one 0 x h)))

  pub begin_made : Made fixed s (after s (event.Begin i)) l (lore_after s l (event.Begin i)) i
      (begun (own_of s i)) (knows.Nothing ∷ [])
  begin_made =
      record {
        owns = refl;
        knows = refl;
        mutators = refl;
        below = below;
        known_below = let fit = shape.mutators_fit in omega
            (arith, below, fit.owns_fit, facts.known_fit);
        same = λ x r.
            record {
              reached = begin_back x r;
              rows = λ f. refl;
              term = refl;
              fresh = refl;
              entries = λ f. refl;
            };
        less = λ x j is. is;
        held_mine = λ x is.
            let none : has [] x ≡ true =
            subst (λ (places : List Held). has (cells_in places) x
            ≡ true) holds_nothing (facts.freshed.held x i is) in
            absurd cc;
        alone_mine = λ x j is h.
            let none : None ≡ Some j =
            sym facts.freshed.anchor ∙ ap l.fresh (has_one 0 x h) ∙ is in
            absurd cc;
        known_mine = (tt, tt);
      }

  pub facts_begin : Facts fixed (after s (event.Begin i)) (lore_after s l (event.Begin i))
  facts_begin = made_facts fixed s (after s (event.Begin i)) l (lore_after s l (event.Begin i)) i
      (begun (own_of s i)) (knows.Nothing ∷ [])
      (consistent_after s (event.Begin i) shape k happens) begin_made facts

-- Keep and End.

still_same : (i : ℕ) (b : Bool) (f : Option ℕ) → (f ≡ Some i → b ≡ true) → fresh_still i b f ≡ f
still_same i b None holds_it = refl
still_same i b (Some j) holds_it = elim (cases_eq j i) [
  | inl is ↦
      subst (λ (c : Bool). (if c then (if b then Some j else None) else Some j)
      ≡ Some j) (sym (eq-eqb j i is))
      (subst (λ (c : Bool). (if c then Some j else None)
      ≡ Some j) (sym (holds_it (ap Some is))) refl)
  | inr other ↦
      subst (λ (c : Bool). (if c then (if b then Some j else None) else Some j)
      ≡ Some j) (sym (ne_eqb j i other)) refl
]

still_some : (i j a : ℕ) (same kept_it : Bool)
    → (if same then (if kept_it then Some j else None) else Some j) ≡ Some a
    → j ≡ a
still_some i j a true true h = cc
still_some i j a true false h = absurd cc
still_some i j a false kept_it h = cc

still_less : (i : ℕ) (b : Bool) (f : Option ℕ) (j : ℕ) → fresh_still i b f ≡ Some j → f ≡ Some j
still_less i b None j h = absurd cc
still_less i b (Some a) j h = ap Some (still_some i a j (a == i) b h)

still_held : (i j : ℕ) (kept_it : Bool)
    → (if j == i then (if kept_it then Some j else None) else Some j) ≡ Some i
    → kept_it ≡ true
still_held i j true h = refl
still_held i j false h = elim (cases_eq j i) [
  | inl is ↦ absurd (
      let none : (if true then (if false then Some j else None) else Some j) ≡ Some i =
      subst (λ (b : Bool). (if b then (if false then Some j else None) else Some j)
      ≡ Some i) (eq-eqb j i is) h in cc)
  | inr other ↦ absurd (
      let some : (if false then (if false then Some j else None) else Some j) ≡ Some i =
      subst (λ (b : Bool). (if b then (if false then Some j else None) else Some j)
      ≡ Some i) (ne_eqb j i other) h in
      other (still_some i j i false false some))
]

still_mine : (i : ℕ) (b : Bool) (f : Option ℕ) → fresh_still i b f ≡ Some i → b ≡ true
still_mine i b None h = absurd cc
still_mine i b (Some j) h = still_held i j b h

-- a fresh cell that is still reachable is held by whom it is fresh for
fresh_stays : (s t : State) (l : Lore) (i x : ℕ) (cells : List ℕ) → l.fresh 0 ≡ None
    → ((j : ℕ) → has (cells_of t j) x ≡ true → has cells x ≡ true)
    → ((c f : ℕ) → Reachable t c → field_of t c f ≡ field.Cell x → ⊥)
    → Reachable t x → l.fresh x ≡ Some i → has cells x ≡ true
fresh_stays s t l i x cells old roots names (anchor e) is =
    absurd (let none : None ≡ Some i = sym old ∙ ap l.fresh (sym e) ∙ is in cc)
fresh_stays s t l i x cells old roots names (held j inside h) is = roots j
    (has_holds (held_of t j) x ∙ h)
fresh_stays s t l i x cells old roots names (named {c} f r e) is = absurd (names c f r e)

-- the maker holds fewer cells after the event, and forgets which of the others were fresh
abbrev dropped : Lore → ℕ → List ℕ → List Known → Lore
dropped l i cells known = record {
  terms = l.terms;
  fresh = fresh_held l.fresh i cells;
  known = set l.known i known;
}

dropped_made : (fixed : ℕ → Bool) (s t : State) (l : Lore) (i : ℕ) (own : Own) (known : List Known)
    → IsConsistent s → IsConsistent t → t.rows ≡ s.rows → t.owns ≡ set s.owns i own
    → t.mutators ≡ s.mutators
    → i < length s.owns → i < length l.known
    → ((x : ℕ) → has (cells_in own.held) x ≡ true → has (cells_of s i) x ≡ true)
    → AllKnown (IsKnown fixed s l i) (cells_in own.held) known
    → Facts fixed s l → Made fixed s t l (dropped l i (cells_in own.held) known) i own known
dropped_made fixed s t l i own known k later rows owns mutators below known_below fewer before facts
    =
    let cells = cells_in own.held in
    let m = dropped l i cells known in
    let fields : (x f : ℕ) → field_of t x f ≡ field_of s x f
    = (λ x f. ap (λ (rs : List (List Field)). field_in rs x f) rows) in
    let back : (x : ℕ) → Reachable t x → Reachable s x
    = maker_back s t i own owns k below rows (λ x h. reached_held s i x k (fewer x h)) in
    let stays : (x : ℕ) → Reachable t x → l.fresh x ≡ Some i → has cells x ≡ true
    = (λ x r is. fresh_stays s t l i x cells facts.freshed.anchor
    (cells_each s t i own owns (λ j c. has c x ≡ true → has cells x ≡ true) below (λ h. h)
    (λ j other h. absurd (other (facts.freshed.alone x i j is h))))
    (λ c f reached e. facts.freshed.unnamed x i c f is (back c reached) (sym (fields c f)
    ∙ e)) r is) in
    let same : (x : ℕ) → Reachable t x → SameAt s t l m x
    = (λ x r. record {
      reached = back x r;
      rows = fields x;
      term = refl;
      fresh = still_same i (has cells x) (l.fresh x) (stays x r);
      entries = λ f. refl;
    }) in
    record {
      owns = owns;
      knows = refl;
      mutators = mutators;
      below = below;
      known_below = known_below;
      same = same;
      less = λ x j is. still_less i (has cells x) (l.fresh x) j is;
      held_mine = λ x is. still_mine i (has cells x) (l.fresh x) is;
      alone_mine = λ x j is h. facts.freshed.alone x j i
          (still_less i (has cells x) (l.fresh x) j is) (fewer x h);
      known_mine = all_known (IsKnown fixed s l i) (IsKnown fixed t m i) cells known
          (λ x w h is. knows_on s t l m fixed i x w
          (same x (reached_held t i x later (subst (λ (c : List ℕ). has c x
          ≡ true) (sym (cells_mine s t i own owns below)) h)))
          is) before;
    }

cells_taken : (n : ℕ) (places : List Held) → cells_in (take n places) ≡ take n (cells_in places)
cells_taken zero places = refl
cells_taken (suc n) [] = refl
cells_taken (suc n) (p ∷ ps) = ap (λ cs. p.cell ∷ cs) (cells_taken n ps)

cells_dropped : (n : ℕ) (places : List Held) → cells_in (drop n places) ≡ drop n (cells_in places)
cells_dropped zero places = refl
cells_dropped (suc n) [] = refl
cells_dropped (suc n) (p ∷ ps) = cells_dropped n ps

cells_kept : (places : List Held) (count from copies : ℕ)
    → cells_in (kept places count from copies) ≡ take count (cells_in places)
    ++ take copies (drop from (cells_in places))
cells_kept places count from copies =
    map-append (λ p. p.cell) (take count places) (take copies (drop from places))
    ∙ ap (λ cs. cs ++ cells_in (take copies (drop from places))) (cells_taken count places)
    ∙ ap (λ cs. take count (cells_in places) ++ cs)
    (cells_taken copies (drop from places) ∙ ap (λ cs. take copies cs) (cells_dropped from places))

module _ (fixed : ℕ
    → Bool) (s : State) (l : Lore) (i : ℕ) (shape : IsShaped s) (k : IsConsistent s)
    (facts : Facts fixed s l) where
  own_below : is_in s i ≡ true → i < length s.owns
  own_below inside =
      let there = inside_there s shape i inside in
      let fit = shape.mutators_fit in
      omega (arith, there, fit.owns_fit)

  known_below : is_in s i ≡ true → i < length l.known
  known_below inside =
      let there = inside_there s shape i inside in
      omega (arith, there, facts.known_fit)

  pub keep_made : (count from copies : ℕ) → can s (event.Keep i count from copies) ≡ true
      → Made fixed s (after s (event.Keep i count from copies)) l
      (lore_after s l (event.Keep i count from copies)) i
      (keeping (own_of s i) count from copies) (take count (known_in l.known i)
      ++ take copies (drop from (known_in l.known i)))
  keep_made count from copies h =
      let inside = (keep_needs s i count from copies h).inside in
      let t = after s (event.Keep i count from copies) in
      let own = keeping (own_of s i) count from copies in
      let known = known_in l.known i in
      let all = facts.known_all i in
      let of = IsKnown fixed s l i in
      let parts : AllKnown of (take count (cells_of s i)
      ++ take copies (drop from (cells_of s i))) (take count known
      ++ take copies (drop from known))
      = all_append of (take count (cells_of s i)) (take copies (drop from (cells_of s i)))
      (take count known) (take copies (drop from known))
      (all_take of count (cells_of s i) known all)
      (all_take of copies (drop from (cells_of s i)) (drop from known)
      (all_drop of from (cells_of s i) known all)) in
      dropped_made fixed s t l i own (take count known ++ take copies (drop from known)) k
      (consistent_after s (event.Keep i count from copies) shape k h) refl refl refl
      (own_below inside) (known_below inside)
      (λ x there. has_holds (held_of s i) x
      ∙ holds_kept (held_of s i) count from copies x (sym (has_holds own.held x) ∙ there))
      (subst (λ (c : List ℕ). AllKnown of c (take count known ++ take copies (drop from known)))
      (sym (cells_kept (held_of s i) count from copies)) parts)
      facts

  pub facts_keep : (count from copies : ℕ) → can s (event.Keep i count from copies) ≡ true
      → Facts fixed (after s (event.Keep i count from copies))
      (lore_after s l (event.Keep i count from copies))
  facts_keep count from copies h =
      made_facts fixed s (after s (event.Keep i count from copies)) l
      (lore_after s l (event.Keep i count from copies)) i
      (keeping (own_of s i) count from copies) (take count (known_in l.known i)
      ++ take copies (drop from (known_in l.known i)))
      (consistent_after s (event.Keep i count from copies) shape k h)
      (keep_made count from copies h) facts

  pub end_made : can s (event.End i) ≡ true
      → Made fixed s (after s (event.End i)) l (lore_after s l (event.End i)) i
      (ended (own_of s i)) []
  end_made h =
      dropped_made fixed s (after s (event.End i)) l i (ended (own_of s i)) [] k
      (consistent_after s (event.End i) shape k h) refl refl refl (own_below h) (known_below h)
      (λ x there. absurd (let none : has [] x ≡ true = there in cc)) tt facts

  pub facts_end : can s (event.End i) ≡ true
      → Facts fixed (after s (event.End i)) (lore_after s l (event.End i))
  facts_end h =
      made_facts fixed s (after s (event.End i)) l (lore_after s l (event.End i)) i
      (ended (own_of s i)) []
      (consistent_after s (event.End i) shape k h) (end_made h) facts
