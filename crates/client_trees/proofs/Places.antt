-- Lists by place: what stands at a place after one more was added, and after some were kept.
use Rattle.std.proofs.Common.{◌≡◌, ◌<◌, ◌≤◌, ◌+◌, ◌==◌, ℕ, zero, suc, Bool, true, false, List}
use Rattle.std.proofs.Common.{[], ◌∷◌, ◌++◌, length, take, drop, refl, ◌∙◌, ap, arith}
use Rattle.std.proofs.Common.{if◌then◌else◌}
use Rattle.std.specs.Prelude.{slice_index_or}
use Rattle.std.proofs.lemmas.List.{length-append}
use Rattle.cell_words.specs.Term.{Term, null}
use Rattle.heap_rule.specs.declared.known.Known.{Known}
use Rattle.heap_rule.specs.declared.known.Known.TheVariants as knows
use Rattle.heap_rule.specs.Lore.{at_cell, known_at, told}
use Rattle.client_trees.specs.Records.{IsRecord, IsSomething, known_term, terms_known}

module _ {A : Type 0} (d : A) where
  pub at_more : (xs : List A) (x : A) (k : ℕ) → k < length xs
      → slice_index_or (xs ++ x ∷ []) k d ≡ slice_index_or xs k d
  at_more [] x k lt = absurd (omega (arith, lt))
  at_more (y ∷ xs) x zero lt = refl
  at_more (y ∷ xs) x (suc k) lt = at_more xs x k (omega (arith, lt))

  pub at_last : (xs : List A) (x : A) → slice_index_or (xs ++ x ∷ []) (length xs) d ≡ x
  at_last [] x = refl
  at_last (y ∷ xs) x = at_last xs x

  -- the first so many, and others after them
  pub at_kept : (xs ys : List A) (n k : ℕ) → k < n → n ≤ length xs
      → slice_index_or (take n xs ++ ys) k d ≡ slice_index_or xs k d
  at_kept [] ys n k lt few = absurd (omega (arith, lt, few))
  at_kept (x ∷ xs) ys zero k lt few = absurd (omega (arith, lt))
  at_kept (x ∷ xs) ys (suc n) zero lt few = refl
  at_kept (x ∷ xs) ys (suc n) (suc k) lt few =
      at_kept xs ys n k (omega (arith, lt)) (omega (arith, few))

  at_from : (xs : List A) (from : ℕ) → from < length xs
      → take 1 (drop from xs) ≡ slice_index_or xs from d ∷ []
  at_from [] from lt = absurd (omega (arith, lt))
  at_from (x ∷ xs) zero lt = refl
  at_from (x ∷ xs) (suc from) lt = at_from xs from (omega (arith, lt))

  behind_taken : (xs : List A) (n : ℕ) (x : A) → n ≤ length xs
      → slice_index_or (take n xs ++ x ∷ []) n d ≡ x
  behind_taken xs zero x few = refl
  behind_taken [] (suc n) x few = absurd (omega (arith, few))
  behind_taken (y ∷ xs) (suc n) x few = behind_taken xs n x (omega (arith, few))

  -- and the one that was kept after them
  pub at_copy : (xs : List A) (n from : ℕ) → n ≤ length xs → from < length xs
      → slice_index_or (take n xs ++ take 1 (drop from xs)) n d ≡ slice_index_or xs from d
  at_copy xs n from few lt =
      ap (λ (ys : List A). slice_index_or (take n xs ++ ys) n d) (at_from xs from lt)
      ∙ behind_taken xs n (slice_index_or xs from d) few

  taken_many : (xs : List A) (n : ℕ) → n ≤ length xs → length (take n xs) ≡ n
  taken_many xs zero few = refl
  taken_many [] (suc n) few = absurd (omega (arith, few))
  taken_many (x ∷ xs) (suc n) few = ap suc (taken_many xs n (omega (arith, few)))

  pub cut_many : (xs : List A) (n : ℕ) → n ≤ length xs → length (take n xs ++ []) ≡ n
  cut_many xs zero few = refl
  cut_many [] (suc n) few = absurd (omega (arith, few))
  cut_many (x ∷ xs) (suc n) few = ap suc (cut_many xs n (omega (arith, few)))

  one_many : (ys : List A) (x : A) → length (ys ++ x ∷ []) ≡ length ys + 1
  one_many ys x = let more = length-append ys (x ∷ []) in omega (arith, more)

  pub copied_many : (xs : List A) (n from : ℕ) → n ≤ length xs → from < length xs
      → length (take n xs ++ take 1 (drop from xs)) ≡ n + 1
  copied_many xs n from few lt =
      ap (λ (ys : List A). length (take n xs ++ ys)) (at_from xs from lt)
      ∙ one_many (take n xs) (slice_index_or xs from d)
      ∙ ap (λ (m : ℕ). m + 1) (taken_many xs n few)

-- the term known at a place
pub known_term_at : (known : List Known) (place : ℕ)
    → slice_index_or (terms_known known) place null ≡ known_term (known_at known place)
known_term_at [] place = refl
known_term_at (k ∷ known) zero = refl
known_term_at (k ∷ known) (suc place) = known_term_at known place

-- What is known of a place stays so after it is told that the cell that was read is a record.

told_something : (t : Term) (k : Known) → IsSomething k → told (knows.Record t) k ≡ k
told_something t knows.Nothing is = absurd is
told_something t (knows.Raw fields) is = refl
told_something t (knows.Fresh fields) is = refl
told_something t (knows.Record u) is = refl
told_something t (knows.Boxed terms) is = refl

here_something : (b : Bool) (t : Term) (k : Known) → IsSomething k
    → (if b then told (knows.Record t) k else k) ≡ k
here_something true t k is = told_something t k is
here_something false t k is = refl

pub still_something : (t : Term) (c : ℕ) (cells : List ℕ) (known : List Known) (place : ℕ)
    → length known ≡ length cells → IsSomething (known_at known place)
    → known_at (at_cell (told (knows.Record t)) c cells known) place ≡ known_at known place
still_something t c [] known place same is = refl
still_something t c (cell ∷ cells) [] place same is = absurd is
still_something t c (cell ∷ cells) (k ∷ known) zero same is =
    here_something (cell == c) t k is
still_something t c (cell ∷ cells) (k ∷ known) (suc place) same is =
    still_something t c cells known place (omega (arith, same)) is

pub record_something : (k : Known) → IsRecord k → IsSomething k
record_something knows.Nothing is = is
record_something (knows.Raw fields) is = tt
record_something (knows.Fresh fields) is = tt
record_something (knows.Record t) is = tt
record_something (knows.Boxed terms) is = tt

pub record_there : (known : List Known) (place : ℕ) → IsRecord (known_at known place)
    → place < length known
record_there [] place is = absurd is
record_there (k ∷ known) zero is = omega arith
record_there (k ∷ known) (suc place) is =
    let lt = record_there known place is in omega (arith, lt)
