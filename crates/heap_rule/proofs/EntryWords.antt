-- What the entry of a reachable box says of the word of that field, and what is told of a box or a
-- record where it is read.
use Rattle.std.proofs.Common.{◌≡◌, ◌≢◌, ◌==◌, ℕ, Bool, true, false}
use Rattle.std.proofs.Common.{Option, Some, None, refl, sym, ◌∙◌, ap, subst}
use Rattle.std.proofs.lemmas.Bool.{ne_eqb}
use Rattle.cell_words.specs.declared.fields.Field.{Field}
use Rattle.cell_words.specs.declared.fields.Field.TheVariants as field
use Rattle.cell_words.specs.Term.{IsFive, Term, null, num}
use Rattle.core_machine.specs.State.{State, field_of}
use Rattle.core_machine.specs.Words.{is_box_kind}
use Rattle.dlg_core.specs.Reachable.{Reachable, named}
use Rattle.heap_rule.specs.Boxes.{payload_of}
use Rattle.heap_rule.specs.Facts.{Facts, TermFits, is_record_kind}
use Rattle.heap_rule.specs.Lore.{Lore, Plain, entry_of, five_of}
use Rattle.heap_rule.specs.Lore.{five_plain, learned_of, named_or, told_of}
use Rattle.heap_rule.specs.declared.known.Known.TheVariants as knows
use Rattle.heap_rule.proofs.Maps.{In}
use Rattle.heap_rule.proofs.Writing.{box_no_record}

pub not_some : {A : Type 0} (a : A) (o : Option A) → o ≡ None → o ≡ Some a → ⊥
not_some a o none some = let e : None ≡ Some a = sym none ∙ some in cc

module _ (fixed : ℕ → Bool) (s : State) (l : Lore) (facts : Facts fixed s l) where
  -- a box has no term
  pub no_term : (x : ℕ) → Reachable s x → is_box_kind (field_of s x 5) ≡ true → l.terms x ≡ None
  no_term x r box =
      subst (λ (b : Bool). TermFits b l.terms (field_of s x) (l.terms x))
      (box_no_record (field_of s x 5) box) (facts.termed x r)

  -- whatever has a term is a record
  term_five : (x : ℕ) (t : Term) → Reachable s x → l.terms x ≡ Some t → IsFive t
  term_five x t r is = by_kind (is_record_kind (field_of s x 5)) (facts.termed x r)
    where
      by_kind : (b : Bool) → TermFits b l.terms (field_of s x) (l.terms x) → IsFive t
      by_kind true fits =
          let e : Some (five_of l.terms (field_of s x)) ≡ Some t = sym fits.0 ∙ is in
          let same : five_of l.terms (field_of s x) ≡ t = cc in
          subst IsFive same tt
      by_kind false fits = absurd (not_some t (l.terms x) fits is)

  -- a field that stands for a number or for null is that
  pub number_word : (x f n : ℕ) → Reachable s x → entry_of l.terms (field_of s x f) ≡ Plain (num n)
      → field_of s x f ≡ field.Num n
  number_word x f n r is = by_field (field_of s x f) refl is
    where
      by_cell : (c : ℕ) (term : Option Term) → l.terms c ≡ term → field_of s x f ≡ field.Cell c
          → named_or c term ≡ Plain (num n) → field.Cell c ≡ field.Num n
      by_cell c None term is e = absurd cc
      by_cell c (Some t) term is e =
          let same : t ≡ num n = cc in
          absurd (subst IsFive same (term_five c t (named f r is) term))

      by_field : (value : Field) → field_of s x f ≡ value → entry_of l.terms value ≡ Plain (num n)
          → value ≡ field.Num n
      by_field field.Null at e = absurd cc
      by_field (field.Num m) at e = let same : m ≡ n = cc in ap field.Num same
      by_field (field.Cell c) at e = by_cell c (l.terms c) refl at e

  pub null_word : (x f : ℕ) → Reachable s x → entry_of l.terms (field_of s x f) ≡ Plain null
      → field_of s x f ≡ field.Null
  null_word x f r is = by_field (field_of s x f) refl is
    where
      by_cell : (c : ℕ) (term : Option Term) → l.terms c ≡ term → field_of s x f ≡ field.Cell c
          → named_or c term ≡ Plain null → field.Cell c ≡ field.Null
      by_cell c None term is e = absurd cc
      by_cell c (Some t) term is e =
          let same : t ≡ null = cc in
          absurd (subst IsFive same (term_five c t (named f r is) term))

      by_field : (value : Field) → field_of s x f ≡ value → entry_of l.terms value ≡ Plain null
          → value ≡ field.Null
      by_field field.Null at e = refl
      by_field (field.Num m) at e = absurd cc
      by_field (field.Cell c) at e = by_cell c (l.terms c) refl at e

  -- one that stands for a record's term is a cell with that term
  pub record_word : (x f : ℕ) (t : Term) → IsFive t → entry_of l.terms (field_of s x f) ≡ Plain t
      → (c : ℕ) × ((field_of s x f ≡ field.Cell c) × (l.terms c ≡ Some t))
  record_word x f t is_five is = by_field (field_of s x f) is
    where
      by_cell : (c : ℕ) (term : Option Term) → named_or c term ≡ Plain t → term ≡ Some t
      by_cell c None e = absurd cc
      by_cell c (Some u) e = let same : u ≡ t = cc in ap Some same

      by_field : (value : Field) → entry_of l.terms value ≡ Plain t
          → (c : ℕ) × ((value ≡ field.Cell c) × (l.terms c ≡ Some t))
      by_field field.Null e =
          absurd (let same : null ≡ t = cc in subst IsFive (sym same) is_five)
      by_field (field.Num m) e =
          absurd (let same : num m ≡ t = cc in subst IsFive (sym same) is_five)
      by_field (field.Cell c) e = (c, (refl, by_cell c (l.terms c) e))

  -- what is told of a box that the map has
  pub learned_box : (x : ℕ) → In s l x → x ≢ 0
      → learned_of s l x ≡ knows.Boxed (five_plain (payload_of s l x))
  learned_box x is other =
      ap (λ (b : Bool). told_of b (is_box_kind (field_of s x 5)) (l.terms x) (l.fresh x)
      (five_plain (payload_of s l x))) (ne_eqb x 0 other)
      ∙ ap (λ (b : Bool). told_of false b (l.terms x) (l.fresh x)
      (five_plain (payload_of s l x))) is.box
      ∙ ap (λ (t : Option Term). told_of false true t (l.fresh x)
      (five_plain (payload_of s l x))) (no_term x is.reached is.box)
      ∙ ap (λ (i : Option ℕ). told_of false true None i
      (five_plain (payload_of s l x))) is.old

  pub learned_record : (x : ℕ) (t : Term) → l.terms x ≡ Some t → learned_of s l x ≡ knows.Record t
  learned_record x t is =
      ap (λ (o : Option Term). told_of (x == 0) (is_box_kind (field_of s x 5)) o (l.fresh x)
      (five_plain (payload_of s l x))) is
