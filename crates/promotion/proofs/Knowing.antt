-- What is known of places, where one more cell is held at the end: a change at that cell leaves
-- what is known of the others, and so does a value that is ready.
use Rattle.std.proofs.Common.{◌≡◌, ◌==◌, ◌&&◌, ◌||◌, ◌<◌, ℕ, zero, suc, Bool, true, false, List, []}
use Rattle.std.proofs.Common.{◌∷◌, ◌++◌, length, refl, sym, ◌∙◌, ap, arith, if◌then◌else◌}
use Rattle.std.proofs.Common.{inl, inr, true≢false}
use Rattle.std.specs.Prelude.{slice_index_or, slice_set}
use Rattle.std.proofs.lemmas.Bool.{cases_eq, eq-eqb, ne_eqb}
use Rattle.std.proofs.Math.ListN.{get_or-append}
use Rattle.std.proofs.Math.Seq.{get_or-append_seam}
use Rattle.cell_words.specs.declared.fields.Field.{Field}
use Rattle.cell_words.specs.declared.fields.Field.TheVariants as word
use Rattle.cell_words.specs.declared.fields.Kind.TheVariants as kind
use Rattle.cell_words.specs.Term.{Term, null}
use Rattle.heap_rule.specs.Apart.{IsNewTo, KnowsNoOther}
use Rattle.heap_rule.specs.Asks.{IsSealedValue, is_sealed, knows_sealed}
use Rattle.heap_rule.specs.Facts.{IsTermKnown, is_term, knows_term}
use Rattle.heap_rule.specs.Lore.{at_cell, cell_term, fields_term, has, known_at, known_named}
use Rattle.heap_rule.specs.Lore.{known_revealed, known_sealed, known_set, known_stored, term_or}
use Rattle.heap_rule.specs.Lore.{value_term}
use Rattle.heap_rule.specs.declared.known.Known.{Known}
use Rattle.heap_rule.specs.declared.known.Known.TheVariants as knows
use Rattle.heap_rule.proofs.Lists.{has_at}
use Rattle.mutator_events.specs.declared.values.Value.{Value}
use Rattle.mutator_events.specs.declared.values.Value.TheVariants as values
use Rattle.mutator_events.specs.Values.{field_among}
use Rattle.promotion.specs.Copying.{IsReady, term_at}

-- what is known as a record has a term
pub record_of : (k : Known) → is_term k ≡ true → (t : Term) × (k ≡ knows.Record t)
record_of knows.Nothing is = absurd cc
record_of (knows.Raw fields) is = absurd cc
record_of (knows.Fresh fields) is = absurd cc
record_of (knows.Record t) is = (t, refl)
record_of (knows.Boxed terms) is = absurd cc

-- a place that is known as a record is in range
pub term_there : (known : List Known) (q : ℕ) → is_term (known_at known q) ≡ true
    → q < length known
term_there [] q is = absurd cc
term_there (k ∷ known) zero is = omega arith
term_there (k ∷ known) (suc q) is = let lt = term_there known q is in omega (arith, lt)

-- and it stays known as one
pub term_stays : (known more : List Known) (q : ℕ) (t : Term) → known_at known q ≡ knows.Record t
    → known_at (known ++ more) q ≡ knows.Record t
term_stays [] more q t is = absurd (true≢false (sym (ap is_term is)))
term_stays (k ∷ known) more zero t is = is
term_stays (k ∷ known) more (suc q) t is = term_stays known more q t is

-- Changes at one cell.

pub at_cell_snoc : (change : Known → Known) (d c : ℕ) (cells : List ℕ) (known : List Known)
    (k : Known) → length cells ≡ length known
    → at_cell change d (cells ++ c ∷ []) (known ++ k ∷ [])
    ≡ at_cell change d cells known ++ (if c == d then change k else k) ∷ []
at_cell_snoc change d c [] [] k fit = refl
at_cell_snoc change d c [] (j ∷ known) k fit = absurd (omega (arith, fit))
at_cell_snoc change d c (x ∷ cells) [] k fit = absurd (omega (arith, fit))
at_cell_snoc change d c (x ∷ cells) (j ∷ known) k fit =
    ap (λ (ks : List Known). (if x == d then change j else j) ∷ ks)
    (at_cell_snoc change d c cells known k (omega (arith, fit)))

here_still : (change : Known → Known) (k : Known) (x d : ℕ) → (x ≡ d → change k ≡ k)
    → (if x == d then change k else k) ≡ k
here_still change k x d same = elim (cases_eq x d) [
  | inl is ↦ ap (λ (b : Bool). if b then change k else k) (eq-eqb x d is) ∙ same is
  | inr other ↦ ap (λ (b : Bool). if b then change k else k) (ne_eqb x d other)
]

pub at_still : (change : Known → Known) (d : ℕ) (cells : List ℕ) (known : List Known)
    → ((q : ℕ) → q < length cells → slice_index_or cells q 0 ≡ d
    → change (known_at known q) ≡ known_at known q)
    → at_cell change d cells known ≡ known
at_still change d [] known still = refl
at_still change d (x ∷ cells) [] still = refl
at_still change d (x ∷ cells) (k ∷ known) still =
    λ i. here_still change k x d (still 0 (omega arith)) i
    ∷ at_still change d cells known (λ q lt is. still (suc q) (omega (arith, lt)) is) i

-- Values that are ready.

-- a value of old places names the same cell where one more place is held
pub among_more : (cells more : List ℕ) (known : List Known) (value : Value)
    → length cells ≡ length known → IsReady known value
    → field_among (cells ++ more) value ≡ field_among cells value
among_more cells more known values.Null fit ready = refl
among_more cells more known (values.Num n) fit ready = refl
among_more cells more known (values.Held q) fit ready =
    ap (λ (c : ℕ). word.Cell c)
    (get_or-append cells more 0 q (omega (arith, fit, term_there known q ready)))

agrees_revealed : (t : Term) (k : Known) → KnowsNoOther t k → known_revealed k ≡ k
agrees_revealed t knows.Nothing so = refl
agrees_revealed t (knows.Raw fields) so = absurd so
agrees_revealed t (knows.Fresh fields) so = absurd so
agrees_revealed t (knows.Record u) so = refl
agrees_revealed t (knows.Boxed terms) so = absurd so

-- some place has the cell, and the test holds of what is known there
any_here : (x c : ℕ) (b rest : Bool) → x ≡ c → b ≡ true → (((x == c) && b) || rest) ≡ true
any_here x c b rest is so =
    ap (λ (e : Bool). (e && b) || rest) (eq-eqb x c is) ∙ ap (λ (e : Bool). e || rest) so

any_later : (a rest : Bool) → rest ≡ true → (a || rest) ≡ true
any_later true rest is = refl
any_later false rest is = is

pub knows_term_at : (cells more : List ℕ) (known further : List Known) (q d : ℕ) (t : Term)
    → length cells ≡ length known
    → slice_index_or cells q 0 ≡ d → known_at known q ≡ knows.Record t
    → knows_term (cells ++ more) (known ++ further) d ≡ true
knows_term_at [] more [] further q d t fit at is = absurd (true≢false (sym (ap is_term is)))
knows_term_at [] more (k ∷ known) further q d t fit at is = absurd (omega (arith, fit))
knows_term_at (x ∷ cells) more [] further q d t fit at is = absurd (omega (arith, fit))
knows_term_at (x ∷ cells) more (k ∷ known) further zero d t fit at is =
    any_here x d (is_term k) _ at (ap is_term is)
knows_term_at (x ∷ cells) more (k ∷ known) further (suc q) d t fit at is =
    any_later ((x == d) && is_term k) _
    (knows_term_at cells more known further q d t (omega (arith, fit)) at is)

pub knows_sealed_at : (cells more : List ℕ) (known further : List Known) (q d : ℕ) (t : Term)
    → length cells ≡ length known
    → slice_index_or cells q 0 ≡ d → known_at known q ≡ knows.Record t
    → knows_sealed (cells ++ more) (known ++ further) d ≡ true
knows_sealed_at [] more [] further q d t fit at is = absurd (true≢false (sym (ap is_term is)))
knows_sealed_at [] more (k ∷ known) further q d t fit at is = absurd (omega (arith, fit))
knows_sealed_at (x ∷ cells) more [] further q d t fit at is = absurd (omega (arith, fit))
knows_sealed_at (x ∷ cells) more (k ∷ known) further zero d t fit at is =
    any_here x d (is_sealed k) _ at (ap is_sealed is)
knows_sealed_at (x ∷ cells) more (k ∷ known) further (suc q) d t fit at is =
    any_later ((x == d) && is_sealed k) _
    (knows_sealed_at cells more known further q d t (omega (arith, fit)) at is)

-- the term of a cell is that of each place which knows it as a record, where all places agree
term_agreed : (t rest : Term) (k : Known) → KnowsNoOther t k → rest ≡ t → term_or rest k ≡ t
term_agreed t rest knows.Nothing so is = is
term_agreed t rest (knows.Raw fields) so is = absurd so
term_agreed t rest (knows.Fresh fields) so is = absurd so
term_agreed t rest (knows.Record u) so is = so
term_agreed t rest (knows.Boxed terms) so is = absurd so

term_if : (b : Bool) (t rest : Term) (k : Known) → (b ≡ true → KnowsNoOther t k) → rest ≡ t
    → (if b then term_or rest k else rest) ≡ t
term_if true t rest k so is = term_agreed t rest k (so refl) is
term_if false t rest k so is = is

eq_of : (x d : ℕ) → (x == d) ≡ true → x ≡ d
eq_of x d is = elim (cases_eq x d) [
  | inl same ↦ same
  | inr other ↦ absurd (true≢false (sym is ∙ ne_eqb x d other))
]

pub cell_term_at : (cells more : List ℕ) (known further : List Known) (q d : ℕ) (t : Term)
    → length cells ≡ length known
    → slice_index_or cells q 0 ≡ d → known_at known q ≡ knows.Record t
    → ((p : ℕ) → p < length cells → slice_index_or cells p 0 ≡ d → KnowsNoOther t (known_at known p))
    → cell_term (cells ++ more) (known ++ further) d ≡ t
cell_term_at [] more [] further q d t fit at is agree = absurd (true≢false (sym (ap is_term is)))
cell_term_at [] more (k ∷ known) further q d t fit at is agree = absurd (omega (arith, fit))
cell_term_at (x ∷ cells) more [] further q d t fit at is agree = absurd (omega (arith, fit))
cell_term_at (x ∷ cells) more (k ∷ known) further zero d t fit at is agree =
    let rest = cell_term (cells ++ more) (known ++ further) d in
    ap (λ (b : Bool). if b then term_or rest k else rest) (eq-eqb x d at) ∙ ap (term_or rest) is
cell_term_at (x ∷ cells) more (k ∷ known) further (suc q) d t fit at is agree =
    term_if (x == d) t (cell_term (cells ++ more) (known ++ further) d) k
    (λ same. agree 0 (omega arith) (eq_of x d same))
    (cell_term_at cells more known further q d t (omega (arith, fit)) at is
    (λ p lt here. agree (suc p) (omega (arith, lt)) here))

module _ (cells : List ℕ) (known : List Known) (c : ℕ) (new : IsNewTo cells known c) where
  many : length cells ≡ length known
  many = sym new.fit

  not_there : (q : ℕ) → q < length cells → slice_index_or cells q 0 ≡ c → ⊥
  not_there q lt is =
      true≢false (sym (has_at cells q lt) ∙ ap (λ (x : ℕ). has cells x) is ∙ new.apart)

  pub last_known : (place : ℕ) (k : Known) → place ≡ length cells
      → known_at (known ++ k ∷ []) place ≡ k
  last_known place k is =
      ap (λ (n : ℕ). known_at (known ++ k ∷ []) n) (is ∙ many)
      ∙ get_or-append_seam known k [] knows.Nothing

  pub last_cell : (place : ℕ) → place ≡ length cells
      → slice_index_or (cells ++ c ∷ []) place 0 ≡ c
  last_cell place is =
      ap (λ (n : ℕ). slice_index_or (cells ++ c ∷ []) n 0) is ∙ get_or-append_seam cells c [] 0

  -- a change at the last cell
  at_last : (change : Known → Known) (k : Known)
      → at_cell change c (cells ++ c ∷ []) (known ++ k ∷ []) ≡ known ++ change k ∷ []
  at_last change k =
      at_cell_snoc change c c cells known k many
      ∙ (λ i. at_still change c cells known (λ q lt is. absurd (not_there q lt is)) i
      ++ (if eq-eqb c c refl i then change k else k) ∷ [])

  -- what a ready value names is known as a record, and is not the last cell
  named_same : (k : Known) (value : Value) → IsReady known value
      → known_named (cells ++ c ∷ []) (known ++ k ∷ []) (field_among cells value) ≡ known ++ k ∷ []
  named_same k values.Null ready = refl
  named_same k (values.Num n) ready = refl
  named_same k (values.Held q) ready =
      let d = slice_index_or cells q 0 in
      let lt : q < length cells = omega (arith, many, term_there known q ready) in
      let is = record_of (known_at known q) ready in
      at_cell_snoc known_revealed d c cells known k many
      ∙ (λ i. at_still known_revealed d cells known
      (λ p below same. agrees_revealed is.0 (known_at known p)
      (new.agree p q is.0 below lt same is.1)) i
      ++ here_still known_revealed k c d
      (λ same. absurd (not_there q lt (sym same)))
      i ∷ [])

  pub fill_known : (fields : List Field) (place f : ℕ) (value : Value) → place ≡ length cells
      → IsReady known value
      → known_stored (cells ++ c ∷ []) (known ++ knows.Raw fields ∷ []) place f
      (field_among cells value)
      ≡ known ++ knows.Raw (slice_set fields f (field_among cells value)) ∷ []
  fill_known fields place f value is ready =
      let w = field_among cells value in
      ap (λ (ks : List Known). known_named (cells ++ c ∷ []) ks w)
      (ap (λ (x : ℕ). at_cell (known_set f w) x (cells ++ c ∷ [])
      (known ++ knows.Raw fields ∷ [])) (last_cell place is)
      ∙ at_last (known_set f w) (knows.Raw fields))
      ∙ named_same (knows.Raw (slice_set fields f w)) value ready

  pub value_sealed : (k : Known) (value : Value) → IsReady known value
      → IsSealedValue (cells ++ c ∷ []) (known ++ k ∷ []) (field_among cells value)
  value_sealed k values.Null ready = tt
  value_sealed k (values.Num n) ready = tt
  value_sealed k (values.Held q) ready =
      let is = record_of (known_at known q) ready in
      let d = slice_index_or cells q 0 in
      any_later (d == 0) _
      (knows_sealed_at cells (c ∷ []) known (k ∷ []) q d is.0 many refl is.1)

  pub value_known : (k : Known) (value : Value) → IsReady known value
      → IsTermKnown (cells ++ c ∷ []) (known ++ k ∷ []) (field_among cells value)
  value_known k values.Null ready = tt
  value_known k (values.Num n) ready = tt
  value_known k (values.Held q) ready =
      let is = record_of (known_at known q) ready in
      knows_term_at cells (c ∷ []) known (k ∷ []) q (slice_index_or cells q 0) is.0 many refl
      is.1

  pub value_term_is : (k : Known) (value : Value) → IsReady known value
      → value_term (cells ++ c ∷ []) (known ++ k ∷ []) (field_among cells value)
      ≡ term_at known value
  value_term_is k values.Null ready = refl
  value_term_is k (values.Num n) ready = refl
  value_term_is k (values.Held q) ready =
      let is = record_of (known_at known q) ready in
      let lt : q < length cells = omega (arith, many, term_there known q ready) in
      cell_term_at cells (c ∷ []) known (k ∷ []) q (slice_index_or cells q 0) is.0 many refl
      is.1 (λ p below same. new.agree p q is.0 below lt same is.1)
      ∙ sym (ap (term_or null) is.1)

  pub seal_known : (fields : List Field) (place : ℕ) → place ≡ length cells
      → at_cell
      (known_sealed (cells ++ c ∷ []) (known ++ knows.Raw fields ∷ []) kind.Record)
      (slice_index_or (cells ++ c ∷ []) place 0) (cells ++ c ∷ [])
      (known ++ knows.Raw fields ∷ [])
      ≡ known ++ knows.Record (fields_term (cells ++ c ∷ []) (known ++ knows.Raw fields ∷ []) fields)
      ∷ []
  seal_known fields place is =
      let change = known_sealed (cells ++ c ∷ []) (known ++ knows.Raw fields ∷ []) kind.Record in
      ap (λ (x : ℕ). at_cell change x (cells ++ c ∷ []) (known ++ knows.Raw fields ∷ []))
      (last_cell place is) ∙ at_last change (knows.Raw fields)
