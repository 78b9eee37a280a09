-- What an event that leaves a cell alone leaves of the facts on it.
use Rattle.std.proofs.Common.{◌≡◌, ◌<◌, ℕ, Bool, true, false, List}
use Rattle.std.proofs.Common.{Option, Some, refl, sym, ◌∙◌, ap, subst, arith}
use Rattle.cell_words.specs.declared.fields.Field.{Field}
use Rattle.cell_words.specs.declared.fields.Field.TheVariants as field
use Rattle.cell_words.specs.Term.{Term, five}
use Rattle.core_machine.specs.State.{State, field_of, held_of}
use Rattle.core_machine.specs.Words.{is_box_kind, is_raw_kind}
use Rattle.dlg_core.specs.Consistent.{IsConsistent}
use Rattle.dlg_core.specs.Reachable.{Reachable, anchor}
use Rattle.dlg_core.proofs.Computes.{into}
use Rattle.heap_rule.specs.declared.known.Known.{Known}
use Rattle.heap_rule.specs.declared.known.Known.TheVariants as knows
use Rattle.heap_rule.specs.Facts.{AllKnown, Facts, IsPlain, IsKnown, TermFits}
use Rattle.heap_rule.specs.Facts.{is_record_kind}
use Rattle.heap_rule.specs.Knowledge.{KnownAt}
use Rattle.heap_rule.specs.Lore.{Lore, Terms, cells_of, entry_of, five_of, has, known_in, term_of}
use Rattle.heap_rule.proofs.Lists.{all_known, has_holds, reached_held}

-- The cell was reachable before, and nothing of it has changed. Its fields stand for what they did.
pub record SameAt (s t : State) (l m : Lore) (x : ℕ) : Type 0 where
  pub reached : Reachable s x
  pub rows : (f : ℕ) → field_of t x f ≡ field_of s x f
  pub term : m.terms x ≡ l.terms x
  pub fresh : m.fresh x ≡ l.fresh x
  pub entries : (f : ℕ) → entry_of m.terms (field_of s x f) ≡ entry_of l.terms (field_of s x f)

-- from one heap's parts of a cell to another's
pub known_moved : (fixed : ℕ → Bool) (a b : Terms) (row now : ℕ
    → Field) (t u : Option Term) (f g : Option ℕ) (i x : ℕ) (k : Known)
    → ((n : ℕ) → now n ≡ row n) → u ≡ t → g ≡ f
    → ((n : ℕ) → entry_of b (row n) ≡ entry_of a (row n))
    → KnownAt fixed a row t f i x k → KnownAt fixed b now u g i x k
known_moved fixed a b row now t u f g i x knows.Nothing rows term fresh entries h = tt
known_moved fixed a b row now t u f g i x (knows.Raw fields) rows term fresh entries h =
    (rows 5 ∙ h.0, fresh ∙ h.1, record { five = h.2.five; each = λ n lt. rows n ∙ h.2.each n lt })
known_moved fixed a b row now t u f g i x (knows.Fresh fields) rows term fresh entries h = (
  ap is_box_kind (rows 5) ∙ h.0,
  fresh
      ∙ h.1,
  record { five = h.2.five; each = λ n lt. rows n ∙ h.2.each n lt },
)
known_moved fixed a b row now t u f g i x (knows.Record other) rows term fresh entries h =
    (rows 5 ∙ h.0, term ∙ h.1)
known_moved fixed a b row now t u f g i x (knows.Boxed told) rows term fresh entries h = (
  h.0,
  ap is_box_kind (rows 5) ∙ h.1,
  fresh ∙ h.2,
  λ n other lt is told_is. ap (entry_of b) (rows n) ∙ entries n ∙ h.3 n other lt is told_is,
)

pub five_moved : (a b : Terms) (row now : ℕ → Field)
    → ((n : ℕ) → n < 5 → entry_of b (now n) ≡ entry_of a (row n))
    → five_of b now ≡ five_of a row
five_moved a b row now e =
    let at : (n : ℕ) → n < 5
    → term_of (entry_of b (now n))
    ≡ term_of (entry_of a (row n)) = (λ n lt. ap term_of (e n lt)) in
    λ t. five (at 0 (omega arith) t) (at 1 (omega arith) t) (at 2 (omega arith) t)
    (at 3 (omega arith) t) (at 4 (omega arith) t)

pub term_moved : (is : Bool) (a b : Terms) (row now : ℕ → Field) (t u : Option Term) → u ≡ t
    → ((n : ℕ) → n < 5 → entry_of b (now n) ≡ entry_of a (row n)) → TermFits is a row t
    → TermFits is b now u
term_moved true a b row now t u term e h = (
  term ∙ h.0
      ∙ sym (ap Some (five_moved a b row now e)),
  λ n lt. subst IsPlain (sym (e n lt)) (h.1 n lt),
)
term_moved false a b row now t u term e h = term ∙ h

module _ (s t : State) (l m : Lore) where
  pub knows_on : (fixed : ℕ → Bool) (i x : ℕ) (k : Known) → SameAt s t l m x
      → KnownAt fixed l.terms (field_of s x) (l.terms x) (l.fresh x) i x k
      → KnownAt fixed m.terms (field_of t x) (m.terms x) (m.fresh x) i x k
  knows_on fixed i x k same h =
      known_moved fixed l.terms m.terms (field_of s x) (field_of t x) (l.terms x) (m.terms x)
      (l.fresh x) (m.fresh x) i x k
      same.rows same.term same.fresh same.entries h

  pub fits_on : (x : ℕ) → SameAt s t l m x
      → TermFits (is_record_kind (field_of s x 5)) l.terms (field_of s x) (l.terms x)
      → TermFits (is_record_kind (field_of t x 5)) m.terms (field_of t x) (m.terms x)
  fits_on x same h =
      let e : (n : ℕ) → n < 5
      → entry_of m.terms (field_of t x n) ≡ entry_of l.terms (field_of s x n)
      = (λ n lt. ap (entry_of m.terms) (same.rows n) ∙ same.entries n) in
      term_moved (is_record_kind (field_of t x 5)) l.terms m.terms (field_of s x) (field_of t x)
      (l.terms x) (m.terms x) same.term e
      (subst (λ (b : Bool). TermFits b l.terms (field_of s x) (l.terms x))
      (sym (ap is_record_kind (same.rows 5))) h)

-- What is reachable after an event was so before it, where this is so of what is held then and of
-- what the fields of such cells name.
pub back_from : (s t : State) → ((i x : ℕ) → has (cells_of t i) x ≡ true → Reachable s x)
    → ((c d f : ℕ) → Reachable s c → field_of t c f ≡ field.Cell d → Reachable s d)
    → (x : ℕ) → Reachable t x → Reachable s x
back_from s t roots along =
    into t.rows t.presences t.owns (Reachable s) (anchor refl)
    (λ i c inside h. roots i c (has_holds (held_of t i) c ∙ h)) along

-- An event that changes nothing of any cell that is reachable after it, and no mutator's cells.
pub still_facts : (fixed : ℕ → Bool) (s t : State) (l : Lore) → IsConsistent t
    → ((x : ℕ) → Reachable t x → SameAt s t l l x) → ((i : ℕ) → cells_of t i ≡ cells_of s i)
    → t.mutators ≡ s.mutators → Facts fixed s l → Facts fixed t l
still_facts fixed s t l k same cells mutators facts = record {
  termed = λ x r. fits_on s t l l x (same x r) (facts.termed x (same x r).reached);
  freshed = record {
    anchor = facts.freshed.anchor;
    held = λ x i is. subst (λ (c : List ℕ). has c x
        ≡ true) (sym (cells i)) (facts.freshed.held x i is);
    alone = λ x i j is h. facts.freshed.alone x i j is (subst (λ (c : List ℕ). has c x
        ≡ true) (cells j) h);
    unnamed = λ x i a f is r e. facts.freshed.unnamed x i a f is (same a r).reached
        (sym ((same a r).rows f) ∙ e);
    raw = λ x r h.
        let was = facts.freshed.raw x (same x r).reached (ap is_raw_kind (sym ((same x r).rows 5))
        ∙ h) in
        (was.0, (same x r).fresh ∙ was.1);
  };
  known_fit = facts.known_fit ∙ sym mutators;
  known_all = λ i.
      let before = subst (λ (c : List ℕ). AllKnown (IsKnown fixed s l i) c (known_in l.known i))
      (sym (cells i)) (facts.known_all i) in
      all_known (IsKnown fixed s l i) (IsKnown fixed t l i) (cells_of t i) (known_in l.known i)
      (λ x w h. knows_on s t l l fixed i x w (same x (reached_held t i x k h))) before;
}
