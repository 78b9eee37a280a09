-- The line up to the first line feed, and what is after it.
use Rattle.std.proofs.Common.{◌≡◌, ℕ, suc, ◌+◌, ◌<◌, ◌≤◌, Bool, true, false, not, cond, eqb}
use Rattle.std.proofs.Common.{nat_lt, List, [], ◌∷◌, ◌++◌, length, take, drop, Some}
use Rattle.std.proofs.Common.{None, refl, sym, ap, subst, ◌∙◌, arith}
use Rattle.std.specs.Prelude.{position}
use Rattle.std.specs.List.{position_or_len, onto_first}
use Rattle.std.proofs.lemmas.Bool.{ltb-true, ltb-false, eqb-true}
use Rattle.std.proofs.lemmas.List.{drop-drop}
use Rattle.std.proofs.lemmas.List.Splits.{slice_split_first}
use Rattle.line_texts.specs.Lines.{lines_of}

abbrev feed : ℕ → Bool
feed b = eqb b 10

-- where a line feed is found, it is the first
found : (xs : List ℕ) (at : ℕ) → position feed xs ≡ Some at
    → (at < length xs) × (position_or_len feed xs ≡ at)
found xs at =
    let n = position_or_len feed xs in
    elim (nat_lt n (length xs)) as (λ b. nat_lt n (length xs) ≡ b → cond b (Some n) None ≡ Some at
    → (at < length xs) × (n ≡ at)) [
      | true ↦ λ h e. (
        let same : n ≡ at = cc in let less : n < length xs =
            ltb-true _ _ h in omega (arith, same),
        cc,
      )
      | false ↦ λ h e. cc
    ] refl

pub within : (xs : List ℕ) (at : ℕ) → position feed xs ≡ Some at → at < length xs
within xs at e = (found xs at e).0

pub cut_at : (xs : List ℕ) (at : ℕ) → position feed xs ≡ Some at
    → lines_of xs ≡ take at xs ∷ lines_of (drop 1 (drop at xs))
cut_at xs at e =
    let w = found xs at e in
    let less : position_or_len feed xs < length xs = omega (arith, w.0, w.1) in
    slice_split_first feed xs 0 less
    ∙ ap (λ n. take n xs ∷ lines_of (drop (n + 1) xs)) w.1
    ∙ ap (λ (r : List ℕ). take at xs ∷ lines_of r) (sym (drop-drop 1 at xs))

-- the bytes are those up to the first line feed, it, and those after it
abbrev IsWhole : List ℕ → ℕ → Type 0
IsWhole xs n = xs ≡ take n xs ++ 10 ∷ drop 1 (drop n xs)

more_whole : (x : ℕ) (xs : List ℕ) (n : ℕ) → IsWhole xs n → IsWhole (x ∷ xs) (suc n)
more_whole x xs n is = ap (λ (bs : List ℕ). x ∷ bs) is

first_feed : (xs : List ℕ) → position_or_len feed xs < length xs
    → IsWhole xs (position_or_len feed xs)
first_feed [] h = absurd (omega (arith, h))
first_feed (x ∷ xs) h =
    elim (feed x) as (λ b. feed x ≡ b
    → cond (not b) (1 + position_or_len feed xs) 0 < suc (length xs)
    → IsWhole (x ∷ xs) (cond (not b) (1 + position_or_len feed xs) 0)) [
      | true ↦ λ e less. ap (λ (y : ℕ). y ∷ xs) (eqb-true x 10 e)
      | false ↦ λ e less. (
          let n = position_or_len feed xs in
          let one : 1 + n ≡ suc n = omega arith in
          let later : n < length xs = omega arith in
          subst (IsWhole (x ∷ xs)) (sym one) (more_whole x xs n (first_feed xs later))
          )
    ] refl h

pub whole_at : (xs : List ℕ) (at : ℕ) → position feed xs ≡ Some at → IsWhole xs at
whole_at xs at e =
    let w = found xs at e in
    let less : position_or_len feed xs < length xs = omega (arith, w.0, w.1) in
    subst (IsWhole xs) w.1 (first_feed xs less)

-- no line feed
one_line : (xs : List ℕ) → length xs ≤ position_or_len feed xs → lines_of xs ≡ xs ∷ []
one_line [] h = refl
one_line (x ∷ xs) h =
    elim (feed x) as (λ b. suc (length xs) ≤ cond (not b) (1 + position_or_len feed xs) 0
    → cond b ([] ∷ lines_of xs) (onto_first x (lines_of xs)) ≡ (x ∷ xs) ∷ []) [
      | true ↦ λ less. absurd (omega (arith, less))
      | false ↦ λ less. ap (onto_first x) (one_line xs (omega (arith, less)))
    ] h

pub uncut : (xs : List ℕ) → position feed xs ≡ None → lines_of xs ≡ xs ∷ []
uncut xs e =
    let n = position_or_len feed xs in
    elim (nat_lt n (length xs)) as (λ b. nat_lt n (length xs) ≡ b → cond b (Some n) None ≡ None
    → lines_of xs ≡ xs ∷ []) [
      | true ↦ λ h s. cc
      | false ↦ λ h _. one_line xs (ltb-false n (length xs) h)
    ] refl e
