-- The facts on lore after Claim: a cell that nobody reached is reachable now, raw and fresh for its
-- maker; of every other nothing changes.
use Rattle.std.proofs.Common.{◌⊎◌, ◌≡◌, ◌≢◌, ◌<◌, ℕ, zero, suc, Bool, true, List}
use Rattle.std.proofs.Common.{[], ◌∷◌, ◌++◌}
use Rattle.std.proofs.Common.{length, slice_index_or, Option, Some, None, inl, inr, refl}
use Rattle.std.proofs.Common.{sym, ◌∙◌, ap, subst, arith}
use Rattle.std.proofs.Common.{if◌then◌else◌, length-set}
use Rattle.std.proofs.Math.ListN.{set}
use Rattle.std.proofs.lemmas.Bool.{cases_eq, eq-eqb, ne_eqb}
use Rattle.std.proofs.lemmas.List.{get_or-set_same, get_or-set_other, set-get_or}
use Rattle.cell_words.specs.declared.colours.Colour.{Colour}
use Rattle.cell_words.specs.declared.colours.Colour.TheVariants as colour
use Rattle.cell_words.specs.declared.fields.Field.{Field}
use Rattle.cell_words.specs.declared.fields.Field.TheVariants as field
use Rattle.cell_words.specs.Term.{Term}
use Rattle.core_machine.specs.declared.events.Event.TheVariants as event
use Rattle.core_machine.specs.declared.events.Found.TheVariants as finds
use Rattle.core_machine.specs.InRange.{IsShaped}
use Rattle.core_machine.specs.Next.{can, after}
use Rattle.core_machine.specs.Own.{Own, having_claimed}
use Rattle.core_machine.specs.State.{State, colour_of, field_in, field_of, held_of, own_in, own_of}
use Rattle.core_machine.specs.Words.{is_raw_kind}
use Rattle.core_machine.proofs.Conditions.{claim_needs}
use Rattle.dlg_core.specs.Consistent.{IsConsistent}
use Rattle.dlg_core.specs.Reachable.{Reachable, anchor, named}
use Rattle.dlg_core.proofs.Computes.{into}
use Rattle.core_machine.proofs.OneOperation.{inside_there}
use Rattle.dlg_core.proofs.Safety.{consistent_safe}
use Rattle.dlg_core.proofs.Step.{consistent_after}
use Rattle.heap_rule.specs.declared.known.Known.{Known}
use Rattle.heap_rule.specs.declared.known.Known.TheVariants as knows
use Rattle.heap_rule.specs.Facts.{AllKnown, Facts, IsKnown, TermFits, is_record_kind}
use Rattle.heap_rule.specs.Lore.{Lore, Terms, cells_in, cells_of, claimed_fresh, claimed_terms}
use Rattle.heap_rule.specs.Lore.{entry_of, five_nulls, has}
use Rattle.heap_rule.specs.Lore.{known_claimed, known_in, lore_after, named_or, put}
use Rattle.heap_rule.proofs.Carried.{SameAt, fits_on, knows_on}
use Rattle.heap_rule.proofs.Lists.{all_append, all_known, has_holds, reached_held}
use Rattle.heap_rule.proofs.Makers.{cells_each, cells_else, cells_mine}
use Rattle.heap_rule.proofs.Quiet.{quiet_facts}
use Rattle.heap_rule.proofs.Reading.{cells_more, has_last, has_more, has_old}

-- A function with another value at one number.

pub put_here : {A : Type 0} (f : ℕ → A) (x : ℕ) (value : A) → put f x value x ≡ value
put_here f x value = subst (λ (b : Bool). (if b then value else f x)
    ≡ value) (sym (eq-eqb x x refl)) refl

pub put_other : {A : Type 0} (f : ℕ → A) (x : ℕ) (value : A) (y : ℕ) → y ≢ x → put f x value y ≡ f y
put_other f x value y other = subst (λ (b : Bool). (if b then value else f y)
    ≡ f y) (sym (ne_eqb y x other)) refl

-- a field that does not name the cell stands for what it did
pub entry_put : (terms : Terms) (x : ℕ) (term : Option Term) (value : Field)
    → (value ≡ field.Cell x → ⊥)
    → entry_of (put terms x term) value ≡ entry_of terms value
entry_put terms x term field.Null other = refl
entry_put terms x term (field.Num n) other = refl
entry_put terms x term (field.Cell c) other =
    ap (named_or c) (put_other terms x term c (λ is. other (ap field.Cell is)))

-- A claim of a cell that was not blue changes nothing.
module _ (fixed : ℕ
    → Bool) (s t : State) (l : Lore) (i c : ℕ) (k : IsConsistent s) (facts : Facts fixed s l)
    (later : IsConsistent t) (rows : t.rows ≡ s.rows) (mutators : t.mutators ≡ s.mutators) where
  missed : t.owns ≡ set s.owns i (own_of s i)
      → Facts fixed t (record l { known = set l.known i (known_in l.known i) })
  missed owns =
      let is : t.owns ≡ s.owns = owns ∙ set-get_or s.owns i _ in
      subst (λ (known : List (List Known)). Facts fixed t (record l { known = known }))
      (sym (set-get_or l.known i []))
      (quiet_facts s t k rows
      (λ j. ap (λ (os : List Own). cells_in ((own_in os j).held)) is) fixed l later mutators
      facts)

null_at : (f : ℕ) → f < 5 → field.Null ≡ slice_index_or five_nulls f field.Null
null_at zero lt = refl
null_at (suc zero) lt = refl
null_at (suc (suc zero)) lt = refl
null_at (suc (suc (suc zero))) lt = refl
null_at (suc (suc (suc (suc zero)))) lt = refl
null_at (suc (suc (suc (suc (suc n))))) lt = absurd (omega arith)

-- A claim that was made.
module _ (fixed : ℕ
    → Bool) (s t : State) (l : Lore) (i c : ℕ) (shape : IsShaped s) (k : IsConsistent s)
    (facts : Facts fixed s l)
    (later : IsConsistent t) (rows : t.rows ≡ s.rows) (mutators : t.mutators ≡ s.mutators)
    (owns : t.owns ≡ set s.owns i (having_claimed (own_of s i) c colour.Blue)) (lt : i < s.mutators)
    (blue : colour_of s c ≡ colour.Blue) where
  abbrev new : Own
  new = having_claimed (own_of s i) c colour.Blue

  abbrev m : Lore
  m = record {
    terms = claimed_terms l.terms c colour.Blue;
    fresh = claimed_fresh l.fresh i c colour.Blue;
    known = set l.known i (known_in l.known i ++ knows.Raw five_nulls ∷ []);
  }

  below : i < length s.owns
  below = let fit = shape.mutators_fit in omega (arith, lt, fit.owns_fit)

  -- it was not reachable, and has null fields
  pub unreached : Reachable s c → ⊥
  unreached r = (consistent_safe s k).reached c r blue

  nulls : (f : ℕ) → field_of s c f ≡ field.Null
  nulls f = k.cells.blue_null c f blue

  fields : (x f : ℕ) → field_of t x f ≡ field_of s x f
  fields x f = ap (λ (rs : List (List Field)). field_in rs x f) rows

  mine_is : (x : ℕ) → has (cells_in new.held) x ≡ true → (has (cells_of s i) x ≡ true) ⊎ (c ≡ x)
  mine_is x h = has_more (cells_of s i) c x (subst (λ (cs : List ℕ). has cs x
      ≡ true) (cells_more (held_of s i) c) h)

  mine_old : (x : ℕ) → has (cells_of s i) x ≡ true → has (cells_in new.held) x ≡ true
  mine_old x h = subst (λ (cs : List ℕ). has cs x
      ≡ true) (sym (cells_more (held_of s i) c)) (has_old (cells_of s i) c x h)

  each : (P : ℕ → List ℕ → Type 0) → P i (cells_in new.held)
      → ((j : ℕ) → j ≢ i → P j (cells_of s j)) → (j : ℕ) → P j (cells_of t j)
  each P here elsewhere j = cells_each s t i new owns P below here elsewhere j

  back : (x : ℕ) → Reachable t x → Reachable s x ⊎ (x ≡ c)
  back = into t.rows t.presences t.owns (λ x. Reachable s x ⊎ (x ≡ c)) (inl (anchor refl))
      (λ j x inside h. each (λ n cs. has cs x ≡ true → Reachable s x ⊎ (x ≡ c))
      (λ there. elim (mine_is x there) [
        | inl old ↦ inl (reached_held s i x k old)
        | inr is ↦ inr (sym is)
      ])
      (λ n other there. inl (reached_held s n x k there)) j (has_holds (held_of t j) x ∙ h))
      (λ x y f reached e. elim reached [
        | inl r ↦ inl (named f r (sym (fields x f) ∙ e))
        | inr is ↦ absurd (let none : field.Null ≡ field.Cell y =
            sym (nulls f) ∙ ap (λ (n : ℕ). field_of s n f) (sym is) ∙ sym (fields x f) ∙ e in cc)
      ])

  back_else : (x : ℕ) → Reachable t x → x ≢ c → Reachable s x
  back_else x r other = elim (back x r) [ inl old ↦ old | inr is ↦ absurd (other is) ]

  pub claimed_same : (x : ℕ) → Reachable t x → x ≢ c → SameAt s t l m x
  claimed_same x r other = record {
    reached = back_else x r other;
    rows = fields x;
    term = put_other l.terms c None x other;
    fresh = put_other l.fresh c (Some i) x other;
    entries = λ f. entry_put l.terms c None (field_of s x f)
        (λ e. unreached (named f (back_else x r other) e));
  }

  -- what another holds is not the cell
  not_held : (j x : ℕ) → has (cells_of s j) x ≡ true → x ≢ c
  not_held j x h is = unreached (subst (Reachable s) is (reached_held s j x k h))

  old_fresh : (x j : ℕ) → x ≢ c → m.fresh x ≡ Some j → l.fresh x ≡ Some j
  old_fresh x j other is = sym (put_other l.fresh c (Some i) x other) ∙ is

  new_fresh : (x j : ℕ) → x ≡ c → m.fresh x ≡ Some j → i ≡ j
  new_fresh x j here is = let both : Some i ≡ Some j = sym (put_here l.fresh c (Some i))
      ∙ ap m.fresh (sym here) ∙ is in cc

  carried : (j : ℕ) → ((x : ℕ) → has (cells_of s j) x ≡ true → has (cells_of t j) x ≡ true)
      → AllKnown (IsKnown fixed t m j) (cells_of s j) (known_in l.known j)
  carried j still =
      all_known (IsKnown fixed s l j) (IsKnown fixed t m j) (cells_of s j) (known_in l.known j)
      (λ x w h before. knows_on s t l m fixed j x w
      (claimed_same x (reached_held t j x later (still x h)) (not_held j x h)) before)
      (facts.known_all j)

  mine_cells : cells_of t i ≡ cells_of s i ++ c ∷ []
  mine_cells = cells_mine s t i new owns below ∙ cells_more (held_of s i) c

  raw_known : IsKnown fixed t m i c (knows.Raw five_nulls)
  raw_known = (
    fields c 5 ∙ nulls 5,
    put_here l.fresh c (Some i),
    record {
      five = refl;
      each = λ f five. fields c f ∙ nulls f ∙ null_at f five;
    },
  )

  mine_known : AllKnown (IsKnown fixed t m i) (cells_of t i) (known_in m.known i)
  mine_known =
      let known_is : known_in m.known i ≡ known_in l.known i ++ knows.Raw five_nulls ∷ [] =
      get_or-set_same l.known i _ [] (omega (arith, lt, facts.known_fit)) in
      subst (λ (cs : List ℕ). AllKnown (IsKnown fixed t m i) cs (known_in m.known i))
      (sym mine_cells)
      (subst (λ (ws : List Known). AllKnown (IsKnown fixed t m i) (cells_of s i
      ++ c ∷ []) ws) (sym known_is)
      (all_append (IsKnown fixed t m i) (cells_of s i) (c ∷ []) (known_in l.known i)
      (knows.Raw five_nulls ∷ [])
      (carried i (λ x h. subst (λ (cs : List ℕ). has cs x
      ≡ true) (sym mine_cells) (has_old (cells_of s i) c x h)))
      (raw_known, tt)))

  claimed : Facts fixed t m
  claimed = record {
    termed = λ x r. elim (cases_eq x c) [
      | inl is ↦
          let raw : field_of t x 5 ≡ field.Null = fields x 5 ∙ ap (λ (n : ℕ). field_of s n 5) is
          ∙ nulls 5 in
          let none : m.terms x ≡ None = ap m.terms is ∙ put_here l.terms c None in
          subst (λ (b : Bool). TermFits b m.terms (field_of t x) (m.terms x))
          (sym (ap is_record_kind raw)) none
      | inr other ↦ fits_on s t l m x (claimed_same x r other)
          (facts.termed x (back_else x r other))
    ];
    freshed = record {
      anchor = put_other l.fresh c (Some i) 0 (λ is. unreached (anchor (sym is)))
          ∙ facts.freshed.anchor;
      held = λ x j is. elim (cases_eq x c) [
        | inl here ↦
            let mine : has (cells_of t i) x ≡ true =
            subst (λ (cs : List ℕ). has cs x
            ≡ true) (sym (cells_mine s t i new owns below ∙ cells_more (held_of s i) c))
            (subst (λ (n : ℕ). has (cells_of s i ++ c ∷ []) n
            ≡ true) (sym here) (has_last (cells_of s i) c)) in
            subst (λ (n : ℕ). has (cells_of t n) x ≡ true) (new_fresh x j here is) mine
        | inr other ↦ each (λ n cs. m.fresh x ≡ Some n → has cs x ≡ true)
            (λ fresh. mine_old x (facts.freshed.held x i (old_fresh x i other fresh)))
            (λ n elsewhere fresh. facts.freshed.held x n (old_fresh x n other fresh)) j is
      ];
      alone = λ x a j is h. elim (cases_eq x c) [
        | inl here ↦ each (λ n cs. has cs x ≡ true → n ≡ a) (λ there. new_fresh x a here is)
            (λ n elsewhere there. absurd (not_held n x there here)) j h
        | inr other ↦ each (λ n cs. has cs x ≡ true → n ≡ a)
            (λ there. elim (mine_is x there) [
              | inl old ↦ facts.freshed.alone x a i (old_fresh x a other is) old
              | inr new_is ↦ absurd (other (sym new_is))
            ])
            (λ n elsewhere there. facts.freshed.alone x a n (old_fresh x a other is) there) j h
      ];
      unnamed = λ x a b f is r e. elim (back b r) [
        | inl old ↦
            let before : field_of s b f ≡ field.Cell x = sym (fields b f) ∙ e in
            elim (cases_eq x c) [
              | inl here ↦ unreached (subst (Reachable s) here (named f old before))
              | inr other ↦ facts.freshed.unnamed x a b f (old_fresh x a other is) old before
            ]
        | inr here ↦
            let none : field.Null ≡ field.Cell x =
            sym (nulls f) ∙ ap (λ (n : ℕ). field_of s n f) (sym here) ∙ sym (fields b f) ∙ e in
            absurd cc
      ];
      raw = λ x r h. elim (cases_eq x c) [
        | inl here ↦ (i, ap m.fresh here ∙ put_here l.fresh c (Some i))
        | inr other ↦
            let was = facts.freshed.raw x (back_else x r other) (ap is_raw_kind (sym (fields x 5))
            ∙ h) in
            (was.0, put_other l.fresh c (Some i) x other ∙ was.1)
      ];
    };
    known_fit = length-set l.known i _ ∙ facts.known_fit ∙ sym mutators;
    known_all = λ j. elim (cases_eq j i) [
      | inl is ↦ subst
          (λ (n : ℕ). AllKnown (IsKnown fixed t m n) (cells_of t n) (known_in m.known n))
          (sym is) mine_known
      | inr other ↦
          subst (λ (cs : List ℕ). AllKnown (IsKnown fixed t m j) cs (known_in m.known j))
          (sym (cells_else s t i new owns j other))
          (subst (λ (ws : List Known). AllKnown (IsKnown fixed t m j) (cells_of s j) ws)
          (sym (get_or-set_other l.known i j _ [] other))
          (carried j (λ x h. subst (λ (cs : List ℕ). has cs x
          ≡ true) (sym (cells_else s t i new owns j other)) h)))
    ];
  }

-- Claim, by the colour that it found.
claim_facts : (fixed : ℕ → Bool) (s t : State) (l : Lore) (i c : ℕ) (found : Colour) → IsShaped s
    → IsConsistent s
    → Facts fixed s l → IsConsistent t → t.rows ≡ s.rows → t.mutators ≡ s.mutators
    → t.owns ≡ set s.owns i (having_claimed (own_of s i) c found) → i < s.mutators
    → colour_of s c ≡ found
    → Facts fixed t record {
      terms = claimed_terms l.terms c found;
      fresh = claimed_fresh l.fresh i c found;
      known = set l.known i (known_claimed (known_in l.known i) (finds.Colour found));
    }
claim_facts fixed s t l i c colour.Blue shape k facts later rows mutators owns lt is =
    claimed fixed s t l i c shape k facts later rows mutators owns lt is
claim_facts fixed s t l i c colour.White shape k facts later rows mutators owns lt is =
    missed fixed s t l i c k facts later rows mutators owns
claim_facts fixed s t l i c colour.Gray shape k facts later rows mutators owns lt is =
    missed fixed s t l i c k facts later rows mutators owns
claim_facts fixed s t l i c colour.Black shape k facts later rows mutators owns lt is =
    missed fixed s t l i c k facts later rows mutators owns

pub facts_claim : (fixed : ℕ → Bool) (s : State) (l : Lore) (i c : ℕ) → IsShaped s → IsConsistent s
    → can s (event.Claim i c) ≡ true → Facts fixed s l
    → Facts fixed (after s (event.Claim i c)) (lore_after s l (event.Claim i c))
facts_claim fixed s l i c shape k h facts =
    let needs = claim_needs s i c h in
    claim_facts fixed s (after s (event.Claim i c)) l i c (colour_of s c) shape k facts
    (consistent_after s (event.Claim i c) shape k h) refl refl refl
    (inside_there s shape i needs.inside) refl
