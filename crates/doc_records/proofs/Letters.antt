-- Seven bytes in a word: one byte at a time, and back again.
use Rattle.std.proofs.Common.{◌≡◌, ℕ, zero, suc, ◌+◌, ◌-◌, ◌*◌, ◌/◌, ◌%◌, ◌^◌, ◌<◌, List, []}
use Rattle.std.proofs.Common.{◌∷◌, ◌++◌, refl, arith, append_assoc, get_or}
use Rattle.std.proofs.Common.{ap, ◌∙◌, min, take, slice_index_or, w64}
use Rattle.std.proofs.Math.Nat.{div-div-eq-div-mul}
use Rattle.std.proofs.lemmas.List.{append-nil}
use Rattle.std.specs.Int.{to_le_bytes}
use Rattle.doc_records.specs.Texts.{bytes_here}
use Rattle.doc_records.specs.Words.{word_of, bytes_of}

one_less : (n : ℕ) → suc n - 1 ≡ n
one_less n = omega arith

pub pushed : (n w : ℕ) (old : List ℕ) → 0 < n
    → (old ++ (w % 256) ∷ []) ++ bytes_of (n - 1) (w / 256) ≡ old ++ bytes_of n w
pushed zero w old some = absurd (omega (arith, some))
pushed (suc n) w old some =
    rw (one_less n) (append_assoc old ((w % 256) ∷ []) (bytes_of n (w / 256)))

pub bytes_none : (w : ℕ) → bytes_of 0 w ≡ []
bytes_none w = refl

pub bytes_step : (n w : ℕ) → 0 < n → bytes_of n w ≡ (w % 256) ∷ bytes_of (n - 1) (w / 256)
bytes_step zero w some = absurd (omega (arith, some))
bytes_step (suc n) w some = rw (one_less n) refl

-- a word by its bytes, each 0 past the end
pub word_letters : (bytes : List ℕ) → word_of 7 bytes
    ≡ get_or bytes 0 0 + 256 * (get_or bytes 1 0 + 256 * (get_or bytes 2 0
    + 256 * (get_or bytes 3 0 + 256 * (get_or bytes 4 0 + 256 * (get_or bytes 5 0
    + 256 * get_or bytes 6 0)))))
word_letters [] = refl
word_letters (a ∷ []) = omega arith
word_letters (a ∷ b ∷ []) = omega arith
word_letters (a ∷ b ∷ c ∷ []) = omega arith
word_letters (a ∷ b ∷ c ∷ d ∷ []) = omega arith
word_letters (a ∷ b ∷ c ∷ d ∷ e ∷ []) = omega arith
word_letters (a ∷ b ∷ c ∷ d ∷ e ∷ f ∷ []) = omega arith
word_letters (a ∷ b ∷ c ∷ d ∷ e ∷ f ∷ g ∷ bytes) = omega arith

pub power_some : (n : ℕ) → 0 < 256 ^ n
power_some zero = omega arith
power_some (suc n) = omega (arith, power_some n)

-- the lowest seven bytes of a number, as they lie in memory
pub seven_bytes : (n : ℕ) (bytes more : List ℕ) → bytes ≡ to_le_bytes w64 n
    → slice_index_or bytes 0 0 ∷ slice_index_or bytes 1 0 ∷ slice_index_or bytes 2 0
    ∷ slice_index_or bytes 3 0 ∷ slice_index_or bytes 4 0 ∷ slice_index_or bytes 5 0
    ∷ slice_index_or bytes 6 0 ∷ more ≡ bytes_of 7 n ++ more
seven_bytes n bytes more is =
    rw (
      is,
      div-div-eq-div-mul n 256 256,
      div-div-eq-div-mul n 65536 256,
      div-div-eq-div-mul n 16777216 256,
      div-div-eq-div-mul n 4294967296 256,
      div-div-eq-div-mul n 1099511627776 256,
    ) refl

-- the first bytes of a list that begins with those of a word
taken : (k n w : ℕ) (more : List ℕ)
    → take k (bytes_of n w ++ more) ≡ bytes_of (min n k) w ++ take (k - n) more
taken k zero w more =
    let none : min 0 k ≡ 0 = omega arith in
    let all : k - 0 ≡ k = omega arith in
    rw (none, all) refl
taken zero (suc n) w more =
    let none : min (suc n) 0 ≡ 0 = omega arith in
    let past : 0 - suc n ≡ 0 = omega arith in
    rw (none, past) refl
taken (suc k) (suc n) w more =
    let least : min (suc n) (suc k) ≡ suc (min n k) = omega arith in
    let left : suc k - suc n ≡ k - n = omega arith in
    rw (least, left) (ap (λ (bytes : List ℕ). (w % 256) ∷ bytes) (taken k n (w / 256) more))

take_none : (n : ℕ) → take {A = ℕ} n [] ≡ []
take_none zero = refl
take_none (suc n) = refl

-- of the bytes of three words so many as a cell has
pub cell_taken : (count first second third : ℕ)
    → take count (bytes_of 7 first ++ (bytes_of 7 second ++ bytes_of 7 third))
    ≡ bytes_here count first second third
cell_taken count first second third =
    let past : count - 7 - 7 ≡ count - 14 = omega arith in
    let last : take (count - 14) (bytes_of 7 third) ≡ bytes_of (min 7 (count - 14)) third =
    taken (count - 14) 7 third []
    ∙ ap (λ (bytes : List ℕ). bytes_of (min 7 (count - 14)) third ++ bytes)
    (take_none (count - 14 - 7)) ∙ append-nil (bytes_of (min 7 (count - 14)) third) in
    taken count 7 first (bytes_of 7 second ++ bytes_of 7 third)
    ∙ ap (λ (bytes : List ℕ). bytes_of (min 7 count) first ++ bytes)
    (taken (count - 7) 7 second (bytes_of 7 third)
    ∙ ap (λ (bytes : List ℕ). bytes_of (min 7 (count - 7)) second ++ bytes)
    (ap (λ (n : ℕ). take n (bytes_of 7 third)) past ∙ last))
