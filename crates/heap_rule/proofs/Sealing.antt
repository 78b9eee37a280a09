-- The facts on lore after Seal: a raw cell becomes a record with its term, or a fresh box.
use Rattle.std.proofs.Common.{◌≡◌, ◌≢◌, ◌<◌, ◌==◌, ◌&&◌, ℕ, Bool, true, List, [], ◌∷◌}
use Rattle.std.proofs.Common.{length, get_or, slice_index_or, Option, Some, None, inl, inr, refl}
use Rattle.std.proofs.Common.{sym, ◌∙◌, ap, subst, arith}
use Rattle.std.proofs.Common.{if◌then◌else◌, length-set}
use Rattle.std.proofs.Math.ListN.{set}
use Rattle.std.proofs.lemmas.Bool.{and_parts, or_cases, cases_eq, eqb-true, eq-eqb, ne_eqb}
use Rattle.std.proofs.lemmas.List.{get_or-set_same, get_or-set_other}
use Rattle.cell_words.specs.declared.fields.Field.{Field}
use Rattle.cell_words.specs.declared.fields.Field.TheVariants as field
use Rattle.cell_words.specs.declared.fields.Kind.{Kind}
use Rattle.cell_words.specs.declared.fields.Kind.TheVariants as kind
use Rattle.cell_words.specs.Term.{Term, five}
use Rattle.core_machine.specs.declared.events.Event.TheVariants as event
use Rattle.core_machine.specs.Conditions.{CanSeal}
use Rattle.core_machine.specs.InRange.{IsShaped}
use Rattle.core_machine.specs.Next.{can, after}
use Rattle.core_machine.specs.State.{State, field_of, held_of, row_in}
use Rattle.core_machine.specs.State.{target_of}
use Rattle.core_machine.specs.Words.{is_box_kind, is_raw_kind, kind_field}
use Rattle.core_machine.proofs.Conditions.{seal_needs}
use Rattle.core_machine.proofs.Frames.{set_field_other}
use Rattle.dlg_core.specs.Consistent.{IsConsistent}
use Rattle.dlg_core.specs.Reachable.{Reachable, named}
use Rattle.dlg_core.proofs.Each.{field_each}
use Rattle.core_machine.proofs.OneOperation.{inside_there}
use Rattle.dlg_core.proofs.Safety.{reachable_live}
use Rattle.dlg_core.proofs.Step.{consistent_after}
use Rattle.heap_rule.specs.declared.known.Known.{Known}
use Rattle.heap_rule.specs.declared.known.Known.TheVariants as knows
use Rattle.heap_rule.specs.Facts.{AllKnown, Facts, IsKnown, IsPlain, IsTermKnown, Proper}
use Rattle.heap_rule.specs.Facts.{SealsTerms, TermFits, is_record_kind, is_term, knows_term}
use Rattle.heap_rule.specs.Knowledge.{ArePayload}
use Rattle.heap_rule.specs.Lore.{Lore, at_cell, cell_term, cells_of, entry_of}
use Rattle.heap_rule.specs.Lore.{fields_term, five_of, has, known_in}
use Rattle.heap_rule.specs.Lore.{known_sealed, lore_after, named_or, sealed_terms, term_of}
use Rattle.heap_rule.specs.Lore.{term_or, value_term}
use Rattle.heap_rule.proofs.Carried.{SameAt, back_from, fits_on, five_moved, knows_on}
use Rattle.heap_rule.proofs.Claiming.{put_here, put_other}
use Rattle.heap_rule.proofs.Lists.{all_changed, all_known, has_holds, reached_held}
use Rattle.heap_rule.proofs.Reading.{cell_there, has_place}

-- The term of a cell, by what is known of its places.

module _ (fixed : ℕ → Bool) (s : State) (l : Lore) (i : ℕ) where
  term_there : (c d : ℕ) (w : Known) (other : Term) → IsKnown fixed s l i c w → (c == d) ≡ true
      → is_term w ≡ true
      → l.terms d ≡ Some (if c == d then term_or other w else other)
  term_there c d (knows.Record t) other h same is =
      ap l.terms (sym (eqb-true c d same)) ∙ h.1
      ∙ ap (λ (b : Bool). Some (if b then t else other)) (sym same)
  term_there c d w other h same is = absurd cc

  term_same : (c d : ℕ) (w : Known) (other : Term) → IsKnown fixed s l i c w
      → l.terms d ≡ Some other → c ≡ d
      → l.terms d ≡ Some (term_or other w)
  term_same c d (knows.Record t) other h rest same = ap l.terms (sym same) ∙ h.1
  term_same c d knows.Nothing other h rest same = rest
  term_same c d (knows.Raw fs) other h rest same = rest
  term_same c d (knows.Fresh fs) other h rest same = rest
  term_same c d (knows.Boxed told) other h rest same = rest

  term_or_there : (c d : ℕ) (w : Known) (other : Term) → IsKnown fixed s l i c w
      → l.terms d ≡ Some other
      → l.terms d ≡ Some (if c == d then term_or other w else other)
  term_or_there c d w other h rest = elim (cases_eq c d) [
    | inl same ↦ subst (λ (b : Bool). l.terms d
        ≡ Some (if b then term_or other w else other)) (sym (eq-eqb c d same))
        (term_same c d w other h rest same)
    | inr apart ↦ subst (λ (b : Bool). l.terms d
        ≡ Some (if b then term_or other w else other)) (sym (ne_eqb c d apart)) rest
  ]

  pub cell_term_is : (cells : List ℕ) (known : List Known) (d : ℕ)
      → AllKnown (IsKnown fixed s l i) cells known
      → knows_term cells known d ≡ true → l.terms d ≡ Some (cell_term cells known d)
  cell_term_is [] known d all h = absurd cc
  cell_term_is (c ∷ cells) [] d all h = absurd all
  cell_term_is (c ∷ cells)
      (w ∷ known) d all h = elim (or_cases ((c == d) && is_term w) (knows_term cells known d) h) [
        | inl here ↦ let both = and_parts (c == d) (is_term w) here in
            term_there c d w (cell_term cells known d) all.0 both.0 both.1
        | inr rest ↦ term_or_there c d w (cell_term cells known d) all.0
            (cell_term_is cells known d all.1 rest)
      ]

-- Seal.

raw_null : (value : Field) → is_raw_kind value ≡ true → value ≡ field.Null
raw_null field.Null h = refl
raw_null (field.Num n) h = absurd cc
raw_null (field.Cell c) h = absurd cc

not_cell : (of : Kind) (c : ℕ) → kind_field of ≡ field.Cell c → ⊥
not_cell kind.Record c h = absurd cc
not_cell kind.Boxed c h = absurd cc

not_raw : (of : Kind) → is_raw_kind (kind_field of) ≡ true → ⊥
not_raw kind.Record h = absurd cc
not_raw kind.Boxed h = absurd cc

module _ (fixed : ℕ
    → Bool) (s : State) (l : Lore) (i place : ℕ) (of : Kind) (shape : IsShaped s)
    (k : IsConsistent s)
    (facts : Facts fixed s l) (h : can s (event.Seal i place of) ≡ true)
    (proper : SealsTerms of (cells_of s i) (known_in l.known i) (field_of s (target_of s i place)))
  where
    abbrev x : ℕ
    x = target_of s i place

    abbrev t : State
    t = after s (event.Seal i place of)

    abbrev m : Lore
    m = lore_after s l (event.Seal i place of)

    needs : CanSeal s i place
    needs = seal_needs s i place h

    later : IsConsistent t
    later = consistent_after s (event.Seal i place of) shape k h

    pub raw : is_raw_kind (field_of s x 5) ≡ true
    raw = needs.raw

    null_kind : field_of s x 5 ≡ field.Null
    null_kind = raw_null (field_of s x 5) raw

    held_here : has (cells_of s i) x ≡ true
    held_here = has_place s i place needs.there

    pub target_reached : Reachable s x
    target_reached = reached_held s i x k held_here

    -- no reachable cell names it, and no other mutator holds it
    unnamed : (c f : ℕ) → Reachable s c → field_of s c f ≡ field.Cell x → ⊥
    unnamed c f r e = absurd
        (let sealed = (k.cells.names_live c x f (reachable_live s k c r) e).1 in let is = raw in cc)

    alone : (j : ℕ) → has (cells_of s j) x ≡ true → j ≡ i
    alone j there =
        k.cells.raw_once j i x raw (sym (has_holds (held_of s j) x)
        ∙ there) (sym (has_holds (held_of s i) x) ∙ held_here)

    fields : (y f : ℕ) → (y ≡ x → f ≡ 5 → ⊥) → field_of t y f ≡ field_of s y f
    fields y f other = set_field_other s.rows x 5 y f (kind_field of) other

    payload : (y f : ℕ) → f < 5 → field_of t y f ≡ field_of s y f
    payload y f lt = fields y f (λ is five. omega (arith, lt, five))

    kind_now : field_of t x 5 ≡ kind_field of
    kind_now =
        let row : length (row_in s.rows x)
        ≡ 6 = shape.cells_fit.six_fields x (shape.names_fit.held_fit i place) in
        let fit = shape.cells_fit.rows_fit in
        let lt = shape.names_fit.held_fit i place in
        ap (λ (r : List Field). get_or r 5 field.Null)
        (get_or-set_same s.rows x (set (row_in s.rows x) 5 (kind_field of)) []
        (omega (arith, fit, lt)))
        ∙ get_or-set_same (row_in s.rows x) 5 (kind_field of) field.Null (omega (arith, row))

    -- a field that names a cell is one that did
    names_before : (P : ℕ → Type 0) (c f d : ℕ) → ((g : ℕ) → field_of s c g ≡ field.Cell d → P c)
        → field_of t c f ≡ field.Cell d → P c
    names_before P c f d step e =
        field_each (λ n g z. ((b : ℕ) → field_of s n b ≡ field.Cell d → P n) → z ≡ field.Cell d
        → P n) s.rows x 5 (kind_field of)
        (λ steps is. absurd (not_cell of d is)) (λ n g steps is. steps g is) c f step e

    back : (y : ℕ) → Reachable t y → Reachable s y
    back = back_from s t (λ j y there. reached_held s j y k there)
        (λ c d f r e. names_before (λ n. Reachable s d) c f d (λ g is. named g r is) e)

    terms_else : (y : ℕ) → y ≢ x → m.terms y ≡ l.terms y
    terms_else y other = sealed_else of y other
      where
        sealed_else : (of : Kind) (y : ℕ) → y ≢ x
            → sealed_terms l.terms x (field_of s x) of y ≡ l.terms y
        sealed_else kind.Record y other = put_other l.terms x
            (Some (five_of l.terms (field_of s x))) y other
        sealed_else kind.Boxed y other = refl

    entries : (c f : ℕ) → Reachable s c
        → entry_of m.terms (field_of s c f) ≡ entry_of l.terms (field_of s c f)
    entries c f r = entry_else (field_of s c f) (λ e. unnamed c f r e)
      where
        entry_else : (value : Field) → (value ≡ field.Cell x → ⊥)
            → entry_of m.terms value ≡ entry_of l.terms value
        entry_else field.Null other = refl
        entry_else (field.Num n) other = refl
        entry_else (field.Cell d) other = ap (named_or d)
            (terms_else d (λ is. other (ap field.Cell is)))

    pub sealed_same : (y : ℕ) → Reachable t y → y ≢ x → SameAt s t l m y
    sealed_same y r other = record {
      reached = back y r;
      rows = λ f. fields y f (λ is five. other is);
      term = terms_else y other;
      fresh = refl;
      entries = λ f. entries y f (back y r);
    }

    others_know : (j : ℕ) → j ≢ i
        → AllKnown (IsKnown fixed t m j) (cells_of s j) (known_in l.known j)
    others_know j other =
        all_known (IsKnown fixed s l j) (IsKnown fixed t m j) (cells_of s j) (known_in l.known j)
        (λ y w there before. knows_on s t l m fixed j y w
        (sealed_same y (reached_held t j y later there)
        (λ is. other (alone j (subst (λ (n : ℕ). has (cells_of s j) n ≡ true) is there)))) before)
        (facts.known_all j)

    -- what is known of the cell itself

    row_known : (fs : List Field) → ArePayload fs (field_of s x) → ArePayload fs (field_of t x)
    row_known fs is = record { five = is.five; each = λ f lt. payload x f lt ∙ is.each f lt }

    value_is : (value : Field) → IsTermKnown (cells_of s i) (known_in l.known i) value
        → value_term (cells_of s i) (known_in l.known i) value ≡ term_of (entry_of l.terms value)
    value_is field.Null is = refl
    value_is (field.Num n) is = refl
    value_is (field.Cell d) is =
        sym (ap (λ (o : Option Term). term_of (named_or d o))
        (cell_term_is fixed s l i (cells_of s i) (known_in l.known i) d (facts.known_all i) is))

    value_plain : (value : Field) → IsTermKnown (cells_of s i) (known_in l.known i) value
        → IsPlain (entry_of l.terms value)
    value_plain field.Null is = tt
    value_plain (field.Num n) is = tt
    value_plain (field.Cell d) is =
        subst (λ (o : Option Term). IsPlain (named_or d o))
        (sym (cell_term_is fixed s l i (cells_of s i) (known_in l.known i) d
        (facts.known_all i) is))
        tt

    -- where it is a record now
    module _ (is : of ≡ kind.Record) where
      knows_fields : (f : ℕ) → f < 5
          → IsTermKnown (cells_of s i) (known_in l.known i) (field_of s x f)
      knows_fields = subst
          (λ (o : Kind). SealsTerms o (cells_of s i) (known_in l.known i) (field_of s x)) is proper

      term_now : m.terms x ≡ Some (five_of l.terms (field_of s x))
      term_now =
          ap (λ (o : Kind). sealed_terms l.terms x (field_of s x) o x) is
          ∙ put_here l.terms x (Some (five_of l.terms (field_of s x)))

      record_fits : TermFits true m.terms (field_of t x) (m.terms x)
      record_fits =
          let e : (f : ℕ) → f < 5
          → entry_of m.terms (field_of t x f) ≡ entry_of l.terms (field_of s x f)
          = (λ f lt. ap (entry_of m.terms) (payload x f lt) ∙ entries x f target_reached) in (
            term_now ∙ sym (ap Some (five_moved l.terms m.terms (field_of s x) (field_of t x) e)),
            λ f lt. subst IsPlain (sym (e f lt)) (value_plain (field_of s x f) (knows_fields f lt)),
          )

      field_term : (fs : List Field) → ArePayload fs (field_of s x) → (f : ℕ) → f < 5
          → value_term (cells_of s i) (known_in l.known i) (slice_index_or fs f field.Null)
          ≡ term_of (entry_of l.terms (field_of s x f))
      field_term fs are f lt =
          ap (value_term (cells_of s i) (known_in l.known i)) (sym (are.each f lt))
          ∙ value_is (field_of s x f) (knows_fields f lt)

      record_known : (fs : List Field) → ArePayload fs (field_of s x)
          → IsKnown fixed t m i x
          (knows.Record (fields_term (cells_of s i) (known_in l.known i) fs))
      record_known fs are =
          let at = field_term fs are in
          let terms : fields_term (cells_of s i) (known_in l.known i) fs
          ≡ five_of l.terms (field_of s x) =
          (λ j. five (at 0 (omega arith) j) (at 1 (omega arith) j) (at 2 (omega arith) j)
          (at 3 (omega arith) j) (at 4 (omega arith) j)) in
          (kind_now ∙ ap kind_field is, term_now ∙ sym (ap Some terms))

    -- or a box
    module _ (is : of ≡ kind.Boxed) where
      box_term : m.terms x ≡ None
      box_term =
          ap (λ (o : Kind). sealed_terms l.terms x (field_of s x) o x) is
          ∙ subst (λ (b : Bool). TermFits b l.terms (field_of s x) (l.terms x))
          (ap is_record_kind null_kind) (facts.termed x target_reached)

      box_known : (fs : List Field) → l.fresh x ≡ Some i → ArePayload fs (field_of s x)
          → IsKnown fixed t m i x (knows.Fresh fs)
      box_known fs fresh
          are = (ap is_box_kind (kind_now ∙ ap kind_field is), fresh, row_known fs are)

    fits_here : (o : Kind) → of ≡ o
        → TermFits (is_record_kind (field_of t x 5)) m.terms (field_of t x) (m.terms x)
    fits_here kind.Record is =
        subst (λ (b : Bool). TermFits b m.terms (field_of t x) (m.terms x))
        (sym (ap is_record_kind (kind_now ∙ ap kind_field is))) (record_fits is)
    fits_here kind.Boxed is =
        subst (λ (b : Bool). TermFits b m.terms (field_of t x) (m.terms x))
        (sym (ap is_record_kind (kind_now ∙ ap kind_field is))) (box_term is)

    sealed_known : (o : Kind) → of ≡ o → (w : Known) → IsKnown fixed s l i x w
        → IsKnown fixed t m i x (known_sealed (cells_of s i) (known_in l.known i) o w)
    sealed_known kind.Record is (knows.Raw fs) h = record_known is fs h.2
    sealed_known kind.Record is knows.Nothing h = tt
    sealed_known kind.Record is (knows.Fresh fs) h = tt
    sealed_known kind.Record is (knows.Record term) h = tt
    sealed_known kind.Record is (knows.Boxed told) h = tt
    sealed_known kind.Boxed is (knows.Raw fs) h = box_known is fs h.1 h.2
    sealed_known kind.Boxed is knows.Nothing h = tt
    sealed_known kind.Boxed is (knows.Fresh fs) h = tt
    sealed_known kind.Boxed is (knows.Record term) h = tt
    sealed_known kind.Boxed is (knows.Boxed told) h = tt

    mine_know : AllKnown (IsKnown fixed t m i) (cells_of s i)
        (at_cell (known_sealed (cells_of s i) (known_in l.known i) of)
        (get_or (cells_of s i) place 0)
        (cells_of s i) (known_in l.known i))
    mine_know =
        let there = cell_there (held_of s i) place in
        all_changed (IsKnown fixed s l i) (IsKnown fixed t m i)
        (known_sealed (cells_of s i) (known_in l.known i) of)
        (get_or (cells_of s i) place 0) (cells_of s i) (known_in l.known i)
        (subst (λ (n : ℕ). (w : Known) → IsKnown fixed s l i n w
        → IsKnown fixed t m i n (known_sealed (cells_of s i) (known_in l.known i) of w))
        (sym there) (sealed_known of refl))
        (λ y w other held before. knows_on s t l m fixed i y w
        (sealed_same y (reached_held t i y later held) (λ is. other (is ∙ sym there))) before)
        (facts.known_all i)

    sealed_facts : Facts fixed t m
    sealed_facts = record {
      termed = λ y r. elim (cases_eq y x) [
        | inl is ↦ subst
            (λ (n : ℕ). TermFits (is_record_kind (field_of t n 5)) m.terms (field_of t n)
            (m.terms n))
            (sym is) (fits_here of refl)
        | inr other ↦ fits_on s t l m y (sealed_same y r other) (facts.termed y (back y r))
      ];
      freshed = record {
        anchor = facts.freshed.anchor;
        held = facts.freshed.held;
        alone = facts.freshed.alone;
        unnamed = λ y j a f is r e. names_before (λ n. ⊥) a f y
            (λ g was. facts.freshed.unnamed y j a g is (back a r) was) e;
        raw = λ y r is. elim (cases_eq y x) [
          | inl here ↦ absurd (not_raw of (sym (ap is_raw_kind (ap (λ (n : ℕ). field_of t n 5) here
              ∙ kind_now)) ∙ is))
          | inr other ↦ facts.freshed.raw y (back y r)
              (ap is_raw_kind (sym (fields y 5 (λ here five. other here))) ∙ is)
        ];
      };
      known_fit = length-set l.known i _ ∙ facts.known_fit;
      known_all = λ j. elim (cases_eq j i) [
        | inl is ↦
            let lt = inside_there s shape i needs.inside in
            let fit = facts.known_fit in
            let here : AllKnown (IsKnown fixed t m i) (cells_of t i) (known_in m.known i) =
            subst (λ (ws : List Known). AllKnown (IsKnown fixed t m i) (cells_of s i) ws)
            (sym (get_or-set_same l.known i _ [] (omega (arith, lt, fit)))) mine_know in
            subst (λ (n : ℕ). AllKnown (IsKnown fixed t m n) (cells_of t n) (known_in m.known n))
            (sym is) here
        | inr other ↦
            subst (λ (ws : List Known). AllKnown (IsKnown fixed t m j) (cells_of s j) ws)
            (sym (get_or-set_other l.known i j _ [] other)) (others_know j other)
      ];
    }

pub facts_seal : (fixed : ℕ → Bool) (s : State) (l : Lore) (i place : ℕ) (of : Kind) → IsShaped s
    → IsConsistent s
    → can s (event.Seal i place of) ≡ true → Proper fixed s l (event.Seal i place of)
    → Facts fixed s l
    → Facts fixed (after s (event.Seal i place of)) (lore_after s l (event.Seal i place of))
facts_seal fixed s l i place of shape k h proper facts = sealed_facts fixed s l i place of shape k
    facts h proper
