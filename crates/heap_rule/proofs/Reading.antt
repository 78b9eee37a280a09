-- The facts on lore after Read and Fetch: what is told of a cell is so, and the maker holds a cell
-- more, if one was found. And after Wipe, whose cell is not reachable.
use Rattle.std.proofs.Common.{◌⊎◌, ◌≡◌, ◌≢◌, ◌<◌, ◌==◌, ◌||◌, ℕ, zero, suc, Bool, true, false, List}
use Rattle.std.proofs.Common.{[], ◌∷◌, ◌++◌}
use Rattle.std.proofs.Common.{length, get_or, slice_index_or, Option, Some, None, inl, inr}
use Rattle.std.proofs.Common.{refl, sym, ◌∙◌, ap, subst, arith}
use Rattle.std.proofs.Math.ListN.{set}
use Rattle.std.proofs.lemmas.Bool.{or_cases, eqb-true, eq-eqb}
use Rattle.std.proofs.lemmas.List.{length-map, map-append}
use Rattle.std.proofs.lemmas.List.Folds.{list_any-append}
use Rattle.cell_words.specs.declared.fields.Field.{Field}
use Rattle.cell_words.specs.declared.fields.Field.TheVariants as field
use Rattle.cell_words.specs.Term.{Term}
use Rattle.core_machine.specs.declared.events.Event.TheVariants as event
use Rattle.core_machine.specs.declared.places.Held.{Held}
use Rattle.core_machine.specs.InRange.{IsShaped}
use Rattle.core_machine.specs.Next.{can, after}
use Rattle.core_machine.specs.Operations.{is_in}
use Rattle.core_machine.specs.Own.{having_fetched, having_read}
use Rattle.core_machine.specs.Places.{cell_at, found_at}
use Rattle.core_machine.specs.State.{State, field_of, held_of, own_of, target_of}
use Rattle.core_machine.specs.Sweep.{wiped_count}
use Rattle.core_machine.specs.Words.{is_box_kind}
use Rattle.core_machine.proofs.Conditions.{fetch_needs, read_needs}
use Rattle.core_machine.proofs.Frames.{set_field_other}
use Rattle.dlg_core.specs.Consistent.{IsConsistent}
use Rattle.dlg_core.specs.Reachable.{Reachable, named}
use Rattle.core_machine.proofs.OneOperation.{inside_there}
use Rattle.dlg_core.proofs.Changes.Own.{own_kept}
use Rattle.dlg_core.proofs.Events.Holding.{read_fits}
use Rattle.dlg_core.proofs.Truths.{wipe_is}
use Rattle.dlg_core.proofs.Step.{consistent_after}
use Rattle.dlg_core.proofs.Truths.{or_here, or_later}
use Rattle.dlg_core.proofs.Untouched.{wiping_not_reachable}
use Rattle.heap_rule.specs.declared.known.Known.{Known}
use Rattle.heap_rule.specs.declared.known.Known.TheVariants as knows
use Rattle.heap_rule.specs.Facts.{AllKnown, Facts, IsKnown, TermFits, is_record_kind}
use Rattle.heap_rule.specs.Knowledge.{KnownAt}
use Rattle.heap_rule.specs.Lore.{Entry, Plain, Named, Lore, Terms, at_cell, cells_in, cells_of}
use Rattle.heap_rule.specs.Lore.{entry_of, five_plain, has}
use Rattle.heap_rule.specs.Lore.{known_found, known_in, learned_from, learned_of, lore_after, plain}
use Rattle.heap_rule.specs.Lore.{told, told_of}
use Rattle.heap_rule.proofs.Carried.{SameAt, back_from, knows_on, still_facts}
use Rattle.heap_rule.proofs.Lists.{all_append, all_changed, all_known, has_at, reached_held}
use Rattle.heap_rule.proofs.Makers.{Made, cells_each, cells_else, cells_mine, made_facts}
use Rattle.heap_rule.proofs.Makers.{maker_back}
use Rattle.heap_rule.proofs.Quiet.{quiet_back, quiet_facts}

-- Wipe.

pub wipe_same : (s : State) (l : Lore) → IsShaped s → IsConsistent s → can s event.Wipe ≡ true
    → (x : ℕ) → Reachable (after s event.Wipe) x → SameAt s (after s event.Wipe) l l x
wipe_same s l shape k h =
    let t = after s event.Wipe in
    let wiping = wipe_is s.collector.sweep h in
    let away : (x : ℕ) → Reachable s x → x ≢ s.control.position
    = (λ x r is. wiping_not_reachable s wiping.0 shape k wiping.1 (subst (Reachable s) is r)) in
    let fields : (x f : ℕ) → x ≢ s.control.position → field_of t x f ≡ field_of s x f
    = (λ x f other. set_field_other s.rows s.control.position
    (wiped_count s.collector.sweep) x f field.Null (λ is same. other is)) in
    let back : (x : ℕ) → Reachable t x → Reachable s x
    = back_from s t (λ i x there. reached_held s i x k there)
    (λ c d f r e. named f r (sym (fields c f (away c r)) ∙ e)) in
    λ x r. record {
      reached = back x r;
      rows = λ f. fields x f
          (away x (back x r));
      term = refl;
      fresh = refl;
      entries = λ f. refl;
    }

pub facts_wipe : (fixed : ℕ → Bool) (s : State) (l : Lore) → IsShaped s → IsConsistent s
    → can s event.Wipe ≡ true
    → Facts fixed s l → Facts fixed (after s event.Wipe) l
facts_wipe fixed s l shape k h facts =
    still_facts fixed s (after s event.Wipe) l (consistent_after s event.Wipe shape k h)
    (wipe_same s l shape k h)
    (λ i. refl) refl facts

-- What is told of a cell is so.

plain_is : (e : Entry) (t : Term) → plain e ≡ Some t → e ≡ Plain t
plain_is (Plain u) t h = let same : u ≡ t = cc in ap Plain same
plain_is (Named c) t h = absurd cc

five_at : (p : ℕ → Entry) (f : ℕ) → f < 5 → slice_index_or (five_plain p) f None ≡ plain (p f)
five_at p zero lt = refl
five_at p (suc zero) lt = refl
five_at p (suc (suc zero)) lt = refl
five_at p (suc (suc (suc zero))) lt = refl
five_at p (suc (suc (suc (suc zero)))) lt = refl
five_at p (suc (suc (suc (suc (suc n))))) lt = absurd (omega arith)

record_is : (x : Field) → is_record_kind x ≡ true → x ≡ field.Num 1
record_is field.Null h = absurd cc
record_is (field.Num n) h = ap field.Num (eqb-true n 1 h)
record_is (field.Cell c) h = absurd cc

not_zero : (x : ℕ) → (x == 0) ≡ false → x ≢ 0
not_zero x h is = absurd (let yes : (x == 0) ≡ true = eq-eqb x 0 is in cc)

with_term : (fixed : ℕ → Bool) (terms : Terms) (row : ℕ
    → Field) (term : Option Term) (fresh : Option ℕ) (i x : ℕ) (t : Term)
    (kind : Bool) → is_record_kind (row 5) ≡ kind → TermFits kind terms row term → term ≡ Some t
    → KnownAt fixed terms row term fresh i x (knows.Record t)
with_term fixed terms row term fresh i x t true kind fits is = (record_is (row 5) kind, is)
with_term fixed terms row term fresh i x t false kind fits is = absurd (let none : None
    ≡ Some t = sym fits ∙ is in cc)

told_fits : (fixed : ℕ → Bool) (terms : Terms) (row : ℕ
    → Field) (term : Option Term) (fresh : Option ℕ) (i x : ℕ)
    (is_anchor is_box : Bool) (of : Option Term) (for : Option ℕ) → (x == 0) ≡ is_anchor
    → is_box_kind (row 5) ≡ is_box
    → term ≡ of → fresh ≡ for → TermFits (is_record_kind (row 5)) terms row term
    → KnownAt fixed terms row term fresh i x
    (told_of is_anchor is_box of for (five_plain (λ f. entry_of terms (row f))))
told_fits fixed terms row term fresh i x a b (Some t) for anchor box of_is for_is fits =
    with_term fixed terms row term fresh i x t (is_record_kind (row 5)) refl fits of_is
told_fits fixed terms row term fresh i x true b None for anchor box of_is for_is fits = tt
told_fits fixed terms row term fresh i x false b None (Some j) anchor box of_is for_is fits = tt
told_fits fixed terms row term fresh i x false true None None anchor box of_is for_is fits = (
  not_zero x anchor,
  box,
  for_is,
  λ f t lt is told_is.
      plain_is (entry_of terms (row f)) t (sym (five_at (λ n. entry_of terms (row n)) f lt)
      ∙ told_is),
)
told_fits fixed terms row term fresh i x false false None None anchor box of_is for_is fits = tt

pub learned_so : (fixed : ℕ → Bool) (s : State) (l : Lore) (i x : ℕ) → Facts fixed s l
    → Reachable s x
    → IsKnown fixed s l i x (learned_of s l x)
learned_so fixed s l i x facts r =
    told_fits fixed l.terms (field_of s x) (l.terms x) (l.fresh x) i x (x == 0)
    (is_box_kind (field_of s x 5)) (l.terms x) (l.fresh x)
    refl refl refl refl (facts.termed x r)

-- what was told is what is known now, or what was known
told_so : (K : Known → Type 0) (one other : Known) → K one → K other → K (told one other)
told_so K knows.Nothing other a b = b
told_so K (knows.Raw fields) other a b = b
told_so K (knows.Fresh fields) other a b = b
told_so K (knows.Record t) knows.Nothing a b = a
told_so K (knows.Record t) other a b = b
told_so K (knows.Boxed terms) knows.Nothing a b = a
told_so K (knows.Boxed terms) (knows.Boxed others) a b = a
told_so K (knows.Boxed terms) other a b = b

-- Read.

-- the cell at a place, as the list of cells has it
pub cell_there : (places : List Held) (place : ℕ)
    → get_or (cells_in places) place 0 ≡ cell_at places place
cell_there [] place = refl
cell_there (p ∷ ps) zero = refl
cell_there (p ∷ ps) (suc place) = cell_there ps place

pub has_place : (s : State) (i place : ℕ) → place < length (held_of s i)
    → has (cells_of s i) (target_of s i place) ≡ true
has_place s i place lt =
    let there : place < length (cells_of s i) =
    subst (λ (n : ℕ). place < n) (sym (length-map (held_of s i) (λ (p : Held). p.cell))) lt in
    subst (λ (c : ℕ). has (cells_of s i) c
    ≡ true) (cell_there (held_of s i) place) (has_at (cells_of s i) place there)

-- one cell more
pub cells_more : (places : List Held) (c : ℕ)
    → cells_in (places ++ found_at c ∷ []) ≡ cells_in places ++ c ∷ []
cells_more places c = map-append (λ (p : Held). p.cell) places (found_at c ∷ [])

pub has_more : (cells : List ℕ) (c x : ℕ) → has (cells ++ c ∷ []) x ≡ true
    → (has cells x ≡ true) ⊎ (c ≡ x)
has_more [] c x h = elim (or_cases (c == x) false h) [
  | inl here ↦ inr (eqb-true c x here)
  | inr there ↦ absurd cc
]
has_more (d ∷ cells) c x h = elim (or_cases (d == x) (has (cells ++ c ∷ []) x) h) [
  | inl here ↦ inl (or_here (d == x) (has cells x) here)
  | inr there ↦ elim (has_more cells c x there) [
    | inl old ↦ inl (or_later (d == x) (has cells x) old)
    | inr new ↦ inr new
  ]
]

pub has_old : (cells : List ℕ) (c x : ℕ) → has cells x ≡ true → has (cells ++ c ∷ []) x ≡ true
has_old cells c x h =
    list_any-append (λ (d : ℕ). d == x) cells (c ∷ []) ∙ ap (λ (b : Bool). b || has (c ∷ []) x) h

pub has_last : (cells : List ℕ) (c : ℕ) → has (cells ++ c ∷ []) c ≡ true
has_last [] c = or_here (c == c) (has [] c) (eq-eqb c c refl)
has_last (d ∷ cells) c = or_later (d == c) (has (cells ++ c ∷ []) c) (has_last cells c)

module _ (fixed : ℕ
    → Bool) (s : State) (l : Lore) (i place f : ℕ) (shape : IsShaped s) (k : IsConsistent s)
    (facts : Facts fixed s l) (inside : is_in s i
    ≡ true) (there : place < length (held_of s i)) where
  here : Reachable s (target_of s i place)
  here = reached_held s i (target_of s i place) k (has_place s i place there)

  -- what the maker knows once the cell that was read is told
  abbrev known_here : List Known
  known_here = at_cell (told (learned_of s l (target_of s i place))) (get_or (cells_of s i) place 0)
      (cells_of s i) (known_in l.known i)

  known_there : AllKnown (IsKnown fixed s l i) (cells_of s i) known_here
  known_there =
      all_changed (IsKnown fixed s l i) (IsKnown fixed s l i)
      (told (learned_of s l (target_of s i place)))
      (get_or (cells_of s i) place 0) (cells_of s i) (known_in l.known i)
      (λ w h. told_so (IsKnown fixed s l i (get_or (cells_of s i) place 0))
      (learned_of s l (target_of s i place)) w
      (subst (λ (c : ℕ). IsKnown fixed s l i c (learned_of s l (target_of s i place)))
      (sym (cell_there (held_of s i) place))
      (learned_so fixed s l i (target_of s i place) facts here)) h)
      (λ c w other h before. before) (facts.known_all i)

  -- the event, by what it found
  abbrev reads : Field → State
  reads found = record s { owns = set s.owns i (having_read (own_of s i) found) }

  abbrev tells : Field → Lore
  tells found = record l
      { known = set l.known i (known_found known_here (learned_from s l found) found) }

  -- the cells that the maker holds then, and what it knows of them
  record Grows (found : Field) : Type 0 where
    back : (x : ℕ) → has (cells_in (having_read (own_of s i) found).held) x ≡ true → Reachable s x
    old : (x : ℕ) → has (cells_of s i) x ≡ true
        → has (cells_in (having_read (own_of s i) found).held) x ≡ true
    alone : (x j : ℕ) → l.fresh x ≡ Some j
        → has (cells_in (having_read (own_of s i) found).held) x ≡ true → i ≡ j
    known : AllKnown (IsKnown fixed s l i) (cells_in (having_read (own_of s i) found).held)
        (known_found known_here (learned_from s l found) found)

  grows : (found : Field) → field_of s (target_of s i place) f ≡ found → Grows found
  grows field.Null is = record {
    back = λ x h. reached_held s i x k h;
    old = λ x h. h;
    alone = λ x j fresh h. facts.freshed.alone x j i fresh h;
    known = known_there;
  }
  grows (field.Num n) is = record {
    back = λ x h. reached_held s i x k h;
    old = λ x h. h;
    alone = λ x j fresh h. facts.freshed.alone x j i fresh h;
    known = known_there;
  }
  grows (field.Cell c) is =
      let cells = cells_more (held_of s i) c in
      let reached : Reachable s c = named f here is in
      let more : (x : ℕ) → has (cells_in (held_of s i ++ found_at c ∷ [])) x ≡ true
      → (has (cells_of s i) x ≡ true) ⊎ (c ≡ x)
      = (λ x h. has_more (cells_of s i) c x (subst (λ (cs : List ℕ). has cs x ≡ true) cells h)) in
      record {
        back = λ x h. elim (more x h) [
          | inl old ↦ reached_held s i x k old
          | inr new ↦ subst (Reachable s) new reached
        ];
        old = λ x h. subst (λ (cs : List ℕ). has cs x
            ≡ true) (sym cells) (has_old (cells_of s i) c x h);
        alone = λ x j fresh h. elim (more x h) [
          | inl old ↦ facts.freshed.alone x j i fresh old
          | inr new ↦ absurd (facts.freshed.unnamed x j (target_of s i place) f fresh here (is
              ∙ ap field.Cell new))
        ];
        known = subst (λ (cs : List ℕ). AllKnown (IsKnown fixed s l i) cs (known_here
            ++ learned_of s l c ∷ [])) (sym cells)
            (all_append (IsKnown fixed s l i) (cells_of s i) (c ∷ []) known_here
            (learned_of s l c ∷ []) known_there
            (learned_so fixed s l i c facts reached, tt));
      }

  pub read_made_by : (found : Field) → field_of s (target_of s i place) f ≡ found
      → IsConsistent (reads found)
      → Made fixed s (reads found) l (tells found) i (having_read (own_of s i) found)
      (known_found known_here (learned_from s l found) found)
  read_made_by found is later =
      let own = having_read (own_of s i) found in
      let grown = grows found is in
      let below : i < length s.owns = let lt = inside_there s shape i
      inside in let fit = shape.mutators_fit in omega (arith, lt, fit.owns_fit) in
      let back = maker_back s (reads found) i own refl k below refl grown.back in
      let same : (x : ℕ) → Reachable (reads found) x → SameAt s (reads found) l (tells found) x
      = (λ x r. record {
        reached = back x r;
        rows = λ g. refl;
        term = refl;
        fresh = refl;
        entries = λ g. refl;
      }) in
      record {
        owns = refl;
        knows = refl;
        mutators = refl;
        below = below;
        known_below = let lt = inside_there s shape i inside in omega (arith, lt, facts.known_fit);
        same = same;
        less = λ x j fresh. fresh;
        held_mine = λ x fresh. grown.old x (facts.freshed.held x i fresh);
        alone_mine = grown.alone;
        known_mine =
            all_known (IsKnown fixed s l i) (IsKnown fixed (reads found) (tells found) i)
            (cells_in own.held)
            (known_found known_here (learned_from s l found) found)
            (λ x w h before. knows_on s (reads found) l (tells found) fixed i x w
            (same x (reached_held (reads found) i x later
            (subst (λ (c : List ℕ). has c x
            ≡ true) (sym (cells_mine s (reads found) i own refl below)) h))) before)
            grown.known;
      }

  pub read_facts : (found : Field) → field_of s (target_of s i place) f ≡ found
      → IsConsistent (reads found)
      → Facts fixed (reads found) (tells found)
  read_facts found is later =
      made_facts fixed s (reads found) l (tells found) i (having_read (own_of s i) found)
      (known_found known_here (learned_from s l found) found)
      later (read_made_by found is later) facts

  -- A Fetch is a Read, and then what is pending changes. No fact on lore speaks of that.
  abbrev now : Field
  now = field_of s (target_of s i place) f

  abbrev fetches : State
  fetches = record s { owns = set s.owns i (having_fetched (own_of s i) place f now) }

  read_first : IsConsistent (reads now)
  read_first = own_kept s i (having_read (own_of s i) now) k
      (read_fits s i place f now k inside there refl)

  cells_fetched : (j : ℕ) → cells_of fetches j ≡ cells_of (reads now) j
  cells_fetched =
      let below : i < length s.owns = let lt = inside_there s shape i
      inside in let fit = shape.mutators_fit in omega (arith, lt, fit.owns_fit) in
      cells_each s fetches i (having_fetched (own_of s i) place f now) refl
      (λ j cells. cells ≡ cells_of (reads now) j) below
      (sym (cells_mine s (reads now) i (having_read (own_of s i) now) refl below))
      (λ j other. sym (cells_else s (reads now) i (having_read (own_of s i) now) refl j other))

  pub fetched_same : (x : ℕ) → Reachable fetches x → SameAt s fetches l (tells now) x
  fetched_same x r =
      let was = (read_made_by now refl read_first).same x
      (quiet_back (reads now) fetches read_first refl cells_fetched x r) in
      record {
        reached = was.reached;
        rows = λ g. refl;
        term = refl;
        fresh = refl;
        entries = λ g. refl;
      }

  pub fetched_facts : IsConsistent fetches → Facts fixed fetches (tells now)
  fetched_facts later =
      quiet_facts (reads now) fetches read_first refl cells_fetched fixed (tells now) later refl
      (read_facts now refl read_first)

pub read_same : (fixed : ℕ → Bool) (s : State) (l : Lore) (i place f : ℕ) → IsShaped s
    → IsConsistent s
    → can s (event.Read i place f) ≡ true → Facts fixed s l → (x : ℕ)
    → Reachable (after s (event.Read i place f)) x
    → SameAt s (after s (event.Read i place f)) l (lore_after s l (event.Read i place f)) x
read_same fixed s l i place f shape k h facts =
    let needs = read_needs s i place f h in
    (read_made_by fixed s l i place f shape k facts needs.inside needs.there
    (field_of s (target_of s i place) f) refl
    (consistent_after s (event.Read i place f) shape k h)).same

pub facts_read : (fixed : ℕ → Bool) (s : State) (l : Lore) (i place f : ℕ) → IsShaped s
    → IsConsistent s
    → can s (event.Read i place f) ≡ true → Facts fixed s l
    → Facts fixed (after s (event.Read i place f)) (lore_after s l (event.Read i place f))
facts_read fixed s l i place f shape k h facts =
    let needs = read_needs s i place f h in
    read_facts fixed s l i place f shape k facts needs.inside needs.there
    (field_of s (target_of s i place) f) refl
    (consistent_after s (event.Read i place f) shape k h)

pub fetch_same : (fixed : ℕ → Bool) (s : State) (l : Lore) (i place f : ℕ) → IsShaped s
    → IsConsistent s
    → can s (event.Fetch i place f) ≡ true → Facts fixed s l → (x : ℕ)
    → Reachable (after s (event.Fetch i place f)) x
    → SameAt s (after s (event.Fetch i place f)) l (lore_after s l (event.Fetch i place f)) x
fetch_same fixed s l i place f shape k h facts =
    let needs = fetch_needs s i place f h in
    fetched_same fixed s l i place f shape k facts needs.inside needs.there

pub facts_fetch : (fixed : ℕ → Bool) (s : State) (l : Lore) (i place f : ℕ) → IsShaped s
    → IsConsistent s
    → can s (event.Fetch i place f) ≡ true → Facts fixed s l
    → Facts fixed (after s (event.Fetch i place f)) (lore_after s l (event.Fetch i place f))
facts_fetch fixed s l i place f shape k h facts =
    let needs = fetch_needs s i place f h in
    fetched_facts fixed s l i place f shape k facts needs.inside needs.there
    (consistent_after s (event.Fetch i place f) shape k h)
