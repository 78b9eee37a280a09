-- The terms of the first rows: each record names none, or the one before it.
use Rattle.std.proofs.Common.{◌≡◌, ◌+◌, ◌-◌, ◌<◌, ◌≤◌, ◌&&◌, inl, inr, ℕ, zero, suc, Bool}
use Rattle.std.proofs.Common.{true, nat_lt, cond, List, [], ◌∷◌, length, get_or, Option, Some, None}
use Rattle.std.proofs.Common.{refl, sym, ◌∙◌, ap, subst, arith}
use Rattle.std.proofs.lemmas.Bool.{and_from, cases_lt, cond-false, cond-true, le-ltb, lt-ltb}
use Rattle.std.proofs.lemmas.List.{get_or_past}
use Rattle.std.proofs.lemmas.List.Folds.{list_all-map}
use Rattle.std.proofs.lemmas.List.FromFn.{get_or-map-range_with_len, length-map-range_with_len}
use Rattle.std.specs.List.{list_all, range_with_len}
use Rattle.cell_words.specs.Term.{Term, five, null}
use Rattle.cell_words.specs.declared.fields.Field.{Field}
use Rattle.cell_words.specs.declared.fields.Field.TheVariants as field
use Rattle.collector_tests.specs.Rows.{HaveTerms, chain_row, chain_rows, row_of, star_rows}
use Rattle.core_machine.specs.Words.{is_box_kind}
use Rattle.core_machine.specs.State.{field_in}
use Rattle.dlg_core.specs.FirstRows.{are_first_rows, is_first_row}
use Rattle.heap_rule.specs.Facts.{IsPlain, TermFits, is_record_kind}
use Rattle.heap_rule.specs.Lore.{Terms, entry_of, named_or, term_of}
use Rattle.heap_rule.specs.Opening.{FirstTerms}

abbrev at : List Field → ℕ → Field
at row f = get_or row f field.Null

abbrev bare : Term
bare = five null null null null null

-- a field of a row that names nothing but in its first field
plain_first : (terms : Terms) (first : Field) (kind f : ℕ) → IsPlain (entry_of terms first)
    → f < 5 → IsPlain (entry_of terms (at (row_of first kind) f))
plain_first terms first kind zero plain lt = plain
plain_first terms first kind (suc zero) plain lt = tt
plain_first terms first kind (suc (suc zero)) plain lt = tt
plain_first terms first kind (suc (suc (suc zero))) plain lt = tt
plain_first terms first kind (suc (suc (suc (suc zero)))) plain lt = tt
plain_first terms first kind (suc (suc (suc (suc (suc f))))) plain lt = absurd (omega (arith, lt))

-- The anchor alone.

abbrev no_terms : Terms
no_terms x = None

plain_fits : FirstTerms (row_of field.Null 2 ∷ []) no_terms
plain_fits zero = refl
plain_fits (suc x) = refl

pub plain_terms : HaveTerms (row_of field.Null 2 ∷ [])
plain_terms = (no_terms, plain_fits)

-- Two records.

abbrev two_terms : Terms
two_terms zero = None
two_terms (suc zero) = Some bare
two_terms (suc (suc zero)) = Some bare
two_terms (suc (suc (suc x))) = None

two_fits : FirstTerms
    (row_of field.Null 2 ∷ row_of field.Null 1 ∷ row_of field.Null 1 ∷ []) two_terms
two_fits zero = refl
two_fits (suc zero) = (refl, λ f lt. plain_first two_terms field.Null 1 f tt lt)
two_fits (suc (suc zero)) = (refl, λ f lt. plain_first two_terms field.Null 1 f tt lt)
two_fits (suc (suc (suc x))) = refl

pub two_have : HaveTerms (row_of field.Null 2 ∷ row_of field.Null 1 ∷ row_of field.Null 1 ∷ [])
two_have = (two_terms, two_fits)

-- Five records, which the anchor names.

abbrev star_terms : Terms
star_terms zero = None
star_terms (suc zero) = Some bare
star_terms (suc (suc zero)) = Some bare
star_terms (suc (suc (suc zero))) = Some bare
star_terms (suc (suc (suc (suc zero)))) = Some bare
star_terms (suc (suc (suc (suc (suc zero))))) = Some bare
star_terms (suc (suc (suc (suc (suc (suc x)))))) = None

star_fits : FirstTerms star_rows star_terms
star_fits zero = refl
star_fits (suc zero) = (refl, λ f lt. plain_first star_terms field.Null 1 f tt lt)
star_fits (suc (suc zero)) = (refl, λ f lt. plain_first star_terms field.Null 1 f tt lt)
star_fits (suc (suc (suc zero))) = (refl, λ f lt. plain_first star_terms field.Null 1 f tt lt)
star_fits (suc (suc (suc (suc zero)))) =
    (refl, λ f lt. plain_first star_terms field.Null 1 f tt lt)
star_fits (suc (suc (suc (suc (suc zero))))) =
    (refl, λ f lt. plain_first star_terms field.Null 1 f tt lt)
star_fits (suc (suc (suc (suc (suc (suc x)))))) = refl

pub star_have : HaveTerms star_rows
star_have = (star_terms, star_fits)

-- The chain.

abbrev chain_term : ℕ → Term
chain_term zero = bare
chain_term (suc k) = five (chain_term k) null null null null

abbrev linked : ℕ → Option Term
linked zero = None
linked (suc k) = Some (chain_term k)

abbrev chain_terms : Terms
chain_terms x = cond (nat_lt x 1000) (linked x) None

term_at : (x : ℕ) → x < 1000 → chain_terms x ≡ linked x
term_at x lt = cond-true (nat_lt x 1000) (linked x) None (lt-ltb x 1000 lt)

row_fits : (x : ℕ) → x < 1000
    → TermFits (is_record_kind (at (chain_row x) 5)) chain_terms (at (chain_row x)) (chain_terms x)
row_fits zero lt = term_at 0 lt
row_fits (suc zero) lt =
    (term_at 1 lt, λ f few. plain_first chain_terms field.Null 1 f tt few)
row_fits (suc (suc k)) lt =
    let below = term_at (suc k) (omega (arith, lt)) in (
      term_at (suc (suc k)) lt
          ∙ ap (λ (o : Option Term). Some (five (term_of (named_or (suc k) o)) null null null null))
          (sym below),
      λ f few. plain_first chain_terms (field.Cell (suc k)) 1 f
          (subst (λ (o : Option Term). IsPlain (named_or (suc k) o)) (sym below) tt) few,
    )

chain_fits : FirstTerms chain_rows chain_terms
chain_fits x =
    elim (cases_lt x 1000) [
      | inl below ↦ subst (λ (row : List Field).
          TermFits (is_record_kind (at row 5)) chain_terms (at row) (chain_terms x))
          (sym (get_or-map-range_with_len chain_row 0 1000 x x [] below (omega arith)))
          (row_fits x below)
      | inr past ↦ subst (λ (row : List Field).
          TermFits (is_record_kind (at row 5)) chain_terms (at row) (chain_terms x))
          (sym (get_or_past chain_rows x []
          (omega (arith, past, length-map-range_with_len chain_row 0 1000))))
          (cond-false (nat_lt x 1000) (linked x) None (le-ltb x 1000 past))
    ]

pub chain_have : HaveTerms chain_rows
chain_have = (chain_terms, chain_fits)

first_row : (c : ℕ) → c < 1000 → is_first_row 1000 (chain_row c) ≡ true
first_row zero lt = refl
first_row (suc zero) lt = refl
first_row (suc (suc k)) lt =
    ap (λ (b : Bool). (b && true) && true) (lt-ltb (suc k) 1000 (omega (arith, lt)))

all_from : (p : ℕ → Bool) (a n : ℕ) → ((k : ℕ) → a ≤ k → k < a + n → p k ≡ true)
    → list_all p (range_with_len a n) ≡ true
all_from p a zero each = refl
all_from p a (suc n) each =
    and_from (p a) (list_all p (range_with_len (a + 1) n))
    (each a (omega arith) (omega arith))
    (all_from p (a + 1) n (λ k low high. each k (omega (arith, low)) (omega (arith, high))))

pub chain_first : are_first_rows chain_rows ≡ true
chain_first =
    ap (λ (n : ℕ). (nat_lt 0 n && is_box_kind (field_in chain_rows 0 5))
    && list_all (is_first_row n) chain_rows) (length-map-range_with_len chain_row 0 1000)
    ∙ and_from (nat_lt 0 1000 && is_box_kind (field_in chain_rows 0 5))
    (list_all (is_first_row 1000) chain_rows)
    (ap (λ (row : List Field). is_box_kind (at row 5))
    (get_or-map-range_with_len chain_row 0 1000 0 0 [] (omega arith) refl))
    (list_all-map (is_first_row 1000) chain_row (range_with_len 0 1000)
    ∙ all_from (λ k. is_first_row 1000 (chain_row k)) 0 1000
    (λ k low high. first_row k (omega (arith, high))))

pub chain_length : length chain_rows ≡ 1000
chain_length = length-map-range_with_len chain_row 0 1000

pub chain_row_more : (c : ℕ) → 1 < c → row_of (field.Cell (c - 1)) 1 ≡ chain_row c
chain_row_more zero lt = absurd (omega (arith, lt))
chain_row_more (suc zero) lt = absurd (omega (arith, lt))
chain_row_more (suc (suc k)) lt =
    ap (λ (n : ℕ). row_of (field.Cell n) 1) same
  where
    same : suc (suc k) - 1 ≡ suc k
    same = omega arith
