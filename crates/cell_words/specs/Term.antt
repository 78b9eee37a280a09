-- Terms: what a field stands for that never changes again, and with it everything that it leads to.
--
-- A term is null, a number, or the five terms of a record's payload. Which term a cell or a minor
-- record has is said above, where cells and records are; a term itself names neither.
-- Source: this project's. A term is the value of an immutable record, as in any ML.
use Rattle.std.specs.Prelude.{ℕ, ◌≡◌, List, [], ◌∷◌, slice_index_or}
use Rattle.std.specs.Prelude.{Option, Some, None}
use Rattle.std.specs.Coded.{Coded, code_by, coded_ℕ, coded_list, coded_option}
use Rattle.std.proofs.Common.{refl, ap}

pub data Term : Type 0 where
  null : Term
  num : ℕ → Term
  five : (a b c d e : Term) → Term

-- the five terms of a record, in order; none of what is no record
abbrev pub parts : Term → List Term
parts null = []
parts (num n) = []
parts (five a b c d e) = a ∷ b ∷ c ∷ d ∷ e ∷ []

-- field i of a record; null past the fifth, and of what is no record
abbrev pub part : ℕ → Term → Term
part i t = slice_index_or (parts t) i null

-- the number that a term is; 0 of what is no number
abbrev pub number : Term → ℕ
number null = 0
number (num n) = n
number (five a b c d e) = 0

-- the term is that of a record
abbrev pub IsFive : Term → Type 0
IsFive null = ⊥
IsFive (num n) = ⊥
IsFive (five a b c d e) = Unit {0}

-- A term as a row of words, by which a proof tells terms apart: each record is a word and then its
-- five terms. The row is read back from its end.
abbrev pub Word : Type 0
Word = Option (Option ℕ)

abbrev pub row : Term → List Word → List Word
row null after = None ∷ after
row (num n) after = Some (Some n) ∷ after
row (five a b c d e) after = Some None ∷ row a (row b (row c (row d (row e after))))

-- a record from the five terms read last
abbrev pub join : List Term → List Term
join [] = []
join (a ∷ []) = []
join (a ∷ b ∷ []) = []
join (a ∷ b ∷ c ∷ []) = []
join (a ∷ b ∷ c ∷ d ∷ []) = []
join (a ∷ b ∷ c ∷ d ∷ e ∷ others) = five a b c d e ∷ others

abbrev pub read : List Word → List Term
read [] = []
read (None ∷ words) = null ∷ read words
read (Some None ∷ words) = join (read words)
read (Some (Some n) ∷ words) = num n ∷ read words

abbrev pub first : List Term → Term
first [] = null
first (t ∷ others) = t

pub read-row : (t : Term) (after : List Word) → read (row t after) ≡ t ∷ read after
read-row null after = refl
read-row (num n) after = refl
read-row (five a b c d e) after =
    let from_d : List Word = row d (row e after) in
    let from_b : List Word = row b (row c from_d) in
    rw (
      read-row a from_b,
      read-row b (row c from_d),
      read-row c from_d,
      read-row d (row e after),
      read-row e after,
    ) refl

abbrev pub term_code : Coded Term
term_code =
    code_by (List Word) (coded_list (coded_option (coded_option coded_ℕ)))
    (λ t. row t []) (λ words. first (read words)) (λ t. ap first (read-row t []))
