-- From the terms that lore has of records to what the fields denote: a reachable record has the
-- term of its five fields, and these name records again.
use Rattle.std.proofs.Common.{◌≡◌, ◌<◌, ◌∙◌, ℕ, Bool, true, false, Option, Some}
use Rattle.std.proofs.Common.{None, refl, sym, ap, arith}
use Rattle.std.proofs.lemmas.Bool.{eqb-true}
use Rattle.cell_words.specs.declared.fields.Field.{Field}
use Rattle.cell_words.specs.declared.fields.Field.TheVariants as field
use Rattle.cell_words.specs.Term.{Term, null, num, five}
use Rattle.closed_store.specs.Chain.{Denotes}
use Rattle.core_machine.specs.State.{State, field_of}
use Rattle.core_machine.specs.Words.{is_box_kind}
use Rattle.dlg_core.specs.Reachable.{Reachable, named}
use Rattle.heap_rule.specs.Facts.{Facts, IsPlain, TermFits, is_record_kind}
use Rattle.heap_rule.specs.Lore.{Entry, Lore, Named, Plain, Terms, entry_of, five_of, named_or}
use Rattle.heap_rule.specs.Lore.{term_of}

pub record_kind : (kind : Field) → is_record_kind kind ≡ true → kind ≡ field.Num 1
record_kind field.Null is = absurd cc
record_kind (field.Num n) is = ap field.Num (eqb-true n 1 is)
record_kind (field.Cell c) is = absurd cc

pub box_kind : (kind : Field) → is_box_kind kind ≡ true → kind ≡ field.Num 2
box_kind field.Null is = absurd cc
box_kind (field.Num n) is = ap field.Num (eqb-true n 2 is)
box_kind (field.Cell c) is = absurd cc

-- an entry that is a term is that of its term
plain_is : (e : Entry) → IsPlain e → e ≡ Plain (term_of e)
plain_is (Plain t) is = refl
plain_is (Named c) is = absurd is

-- a cell that stands for a term has this one
term_there : (c : ℕ) (o : Option Term) (t : Term) → named_or c o ≡ Plain t → o ≡ Some t
term_there c None t is = absurd cc
term_there c (Some u) t is = let same : u ≡ t = cc in ap Some same

-- what lore says of a record with this term
record Recorded (terms : Terms) (row : ℕ → Field) (t : Term) : Type 0 where
  kind_is : row 5 ≡ field.Num 1
  term_is : five_of terms row ≡ t
  plain : (f : ℕ) → f < 5 → IsPlain (entry_of terms (row f))

recorded : (terms : Terms) (row : ℕ → Field) (o : Option Term) (t : Term) (b : Bool)
    → is_record_kind (row 5) ≡ b → TermFits b terms row o → o ≡ Some t
    → Recorded terms row t
recorded terms row o t true kind fits is = record {
  kind_is = record_kind (row 5) kind;
  term_is = let same : Some (five_of terms row) ≡ Some t = sym fits.0 ∙ is in cc;
  plain = fits.1;
}
recorded terms row o t false kind fits is =
    absurd (let clash : None ≡ Some t = sym fits ∙ is in cc)

-- the five fields stand for these terms
record HasParts (terms : Terms) (row : ℕ → Field) (a b c d e : Term) : Type 0 where
  first : entry_of terms (row 0) ≡ Plain a
  second : entry_of terms (row 1) ≡ Plain b
  third : entry_of terms (row 2) ≡ Plain c
  fourth : entry_of terms (row 3) ≡ Plain d
  fifth : entry_of terms (row 4) ≡ Plain e

parts_are : (terms : Terms) (row : ℕ → Field) (a b c d e : Term)
    → Recorded terms row (five a b c d e) → HasParts terms row a b c d e
parts_are terms row a b c d e is =
    let same = is.term_is in
    let of : (f : ℕ) → f < 5
    → entry_of terms (row f) ≡ Plain (term_of (entry_of terms (row f))) =
    (λ f lt. plain_is (entry_of terms (row f)) (is.plain f lt)) in
    let first_is : term_of (entry_of terms (row 0)) ≡ a = cc in
    let second_is : term_of (entry_of terms (row 1)) ≡ b = cc in
    let third_is : term_of (entry_of terms (row 2)) ≡ c = cc in
    let fourth_is : term_of (entry_of terms (row 3)) ≡ d = cc in
    let fifth_is : term_of (entry_of terms (row 4)) ≡ e = cc in
    record {
      first = of 0 (omega arith) ∙ ap Plain first_is;
      second = of 1 (omega arith) ∙ ap Plain second_is;
      third = of 2 (omega arith) ∙ ap Plain third_is;
      fourth = of 3 (omega arith) ∙ ap Plain fourth_is;
      fifth = of 4 (omega arith) ∙ ap Plain fifth_is;
    }

module _ (fixed : ℕ → Bool) (s : State) (l : Lore) (facts : Facts fixed s l) where
  record_there : (x : ℕ) (t : Term) → Reachable s x
      → entry_of l.terms (field.Cell x) ≡ Plain t → Recorded l.terms (field_of s x) t
  record_there x t reached is =
      recorded l.terms (field_of s x) (l.terms x) t (is_record_kind (field_of s x 5)) refl
      (facts.termed x reached) (term_there x (l.terms x) t is)

  -- a field that stands for a term denotes it
  pub denotes : (t : Term) (value : Field)
      → ((c : ℕ) → value ≡ field.Cell c → Reachable s c)
      → entry_of l.terms value ≡ Plain t → Denotes s value t
  denotes null field.Null reached is = tt
  denotes (num n) field.Null reached is = absurd cc
  denotes (five a b c d e) field.Null reached is = absurd cc
  denotes null (field.Num m) reached is = absurd cc
  denotes (num n) (field.Num m) reached is = cc
  denotes (five a b c d e) (field.Num m) reached is = absurd cc
  denotes null (field.Cell x) reached is =
      absurd (let same = (record_there x null (reached x refl) is).term_is in cc)
  denotes (num n) (field.Cell x) reached is =
      absurd (let same = (record_there x (num n) (reached x refl) is).term_is in cc)
  denotes (five a b c d e) (field.Cell x) reached is =
      let there = record_there x (five a b c d e) (reached x refl) is in
      let parts = parts_are l.terms (field_of s x) a b c d e there in
      let on : (f : ℕ) (y : ℕ) → field_of s x f ≡ field.Cell y → Reachable s y =
      (λ f y names. named f (reached x refl) names) in
      record {
        kind_is = there.kind_is;
        first = denotes a (field_of s x 0) (on 0) parts.first;
        second = denotes b (field_of s x 1) (on 1) parts.second;
        third = denotes c (field_of s x 2) (on 2) parts.third;
        fourth = denotes d (field_of s x 3) (on 3) parts.fourth;
        fifth = denotes e (field_of s x 4) (on 4) parts.fifth;
      }
