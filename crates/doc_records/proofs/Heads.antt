-- Names by their heads: names have the order of their heads where these differ, and where the
-- seventh byte is 0 too.
use Rattle.std.proofs.Common.{◌≡◌, ℕ, zero, suc, ◌+◌, ◌*◌, ◌/◌, ◌%◌, ◌^◌, ◌<◌, ◌≤◌, List, [], ◌∷◌}
use Rattle.std.proofs.Common.{refl, ap, sym, ◌∙◌, arith, true, ⊎_elim}
use Rattle.std.proofs.lemmas.Bool.{cases_order}
use Rattle.std.proofs.lemmas.Bool.Decides.{nat_tests}
use Rattle.std.proofs.lemmas.Nat.{mul-add-lt, same_from_place}
use Rattle.std.proofs.Math.Nat.{div-div-eq-div-mul, le-mul_of_pos_right, mul_assoc, mul_comm}
use Rattle.std.proofs.Math.Nat.{pow-suc}
use Rattle.std.specs.Int.{w64, swap_bytes}
use Rattle.std.specs.declared.cmp.Ordering.TheVariants.{Less, Equal, Greater}
use Rattle.doc_tree.specs.Tree.{name_cmp}
use Rattle.doc_tree.specs.Words.{is_name}
use Rattle.cell_words.specs.Term.{Term, null, num, five, part, number, IsFive}
use Rattle.doc_records.specs.Texts.{IsName, text_of}
use Rattle.doc_records.specs.Words.{word_of, head_of}
use Rattle.doc_records.proofs.Letters.{power_some}
use Rattle.doc_records.proofs.Spelled.{AreBytes, name_bytes}

-- the first so many bytes as a number, the first byte highest; bytes past the end are 0
abbrev high : ℕ → List ℕ → ℕ
high zero bytes = 0
high (suc n) [] = 0
high (suc n) (b ∷ bytes) = b * 256 ^ n + high n bytes

-- the first byte, or 0, and the others
abbrev first : List ℕ → ℕ
first [] = 0
first (b ∷ bytes) = b

abbrev rest : List ℕ → List ℕ
rest [] = []
rest (b ∷ bytes) = bytes

first_low : (bytes : List ℕ) → AreBytes bytes → first bytes < 256
first_low [] are = omega arith
first_low (b ∷ bytes) are = are.1

rest_are : (bytes : List ℕ) → AreBytes bytes → AreBytes (rest bytes)
rest_are [] are = tt
rest_are (b ∷ bytes) are = are.2

word_of_none : (n : ℕ) → word_of n [] ≡ 0
word_of_none zero = refl
word_of_none (suc n) = refl

high_none : (n : ℕ) → high n [] ≡ 0
high_none zero = refl
high_none (suc n) = refl

word_splits : (n : ℕ) (bytes : List ℕ)
    → word_of (suc n) bytes ≡ first bytes + 256 * word_of n (rest bytes)
word_splits n [] = omega (arith, word_of_none n)
word_splits n (b ∷ bytes) = refl

high_splits : (n : ℕ) (bytes : List ℕ)
    → high (suc n) bytes ≡ first bytes * 256 ^ n + high n (rest bytes)
high_splits n [] = omega (arith, high_none n)
high_splits n (b ∷ bytes) = refl

-- a word of seven bytes, turned
digit : (w b v : ℕ) → w ≡ b + 256 * v → b < 256 → (w % 256 ≡ b) × (w / 256 ≡ v)
digit w b v is low = (omega (arith, is, low), omega (arith, is, low))

digit_at : (w p u b v : ℕ) → w / p ≡ u → u ≡ b + 256 * v → b < 256
    → (w / p % 256 ≡ b) × (w / (p * 256) ≡ v)
digit_at w p u b v at is low =
    let parts = digit u b v is low in (
      ap (λ n. n % 256) at ∙ parts.0,
      sym (div-div-eq-div-mul w p 256) ∙ ap (λ n. n / 256) at ∙ parts.1,
    )

turned : (w a b c d e f g t u v x y z : ℕ) → w ≡ a + 256 * t → t ≡ b + 256 * u → u ≡ c + 256 * v
    → v ≡ d + 256 * x → x ≡ e + 256 * y → y ≡ f + 256 * z → z ≡ g + 256 * 0
    → a < 256 → b < 256 → c < 256 → d < 256 → e < 256 → f < 256 → g < 256
    → swap_bytes w64 w ≡ 256 * (a * 256 ^ 6 + (b * 256 ^ 5 + (c * 256 ^ 4 + (d * 256 ^ 3
    + (e * 256 ^ 2 + (f * 256 + g))))))
turned w a b c d e f g t u v x y z is0 is1 is2 is3 is4 is5 is6 a' b' c' d' e' f' g' =
    let p0 = digit w a t is0 a' in
    let p1 = digit_at w 256 t b u p0.1 is1 b' in
    let p2 = digit_at w 65536 u c v p1.1 is2 c' in
    let p3 = digit_at w 16777216 v d x p2.1 is3 d' in
    let p4 = digit_at w 4294967296 x e y p3.1 is4 e' in
    let p5 = digit_at w 1099511627776 y f z p4.1 is5 f' in
    let p6 = digit_at w 281474976710656 z g 0 p5.1 is6 g' in
    let p7 : w / 72057594037927936 % 256 ≡ 0 = ap (λ n. n % 256) p6.1 in
    omega (arith, p0.0, p1.0, p2.0, p3.0, p4.0, p5.0, p6.0, p7)

head_high : (bytes : List ℕ) → AreBytes bytes → head_of bytes ≡ 256 * high 7 bytes
head_high bytes are =
    let b1 = rest bytes in
    let b2 = rest b1 in
    let b3 = rest b2 in
    let b4 = rest b3 in
    let b5 = rest b4 in
    let b6 = rest b5 in
    let a1 = rest_are bytes are in
    let a2 = rest_are b1 a1 in
    let a3 = rest_are b2 a2 in
    let a4 = rest_are b3 a3 in
    let a5 = rest_are b4 a4 in
    let a6 = rest_are b5 a5 in
    let is =
    turned _ _ _ _ _ _ _ _ _ _ _ _ _ _ (word_splits 6 bytes) (word_splits 5 b1)
    (word_splits 4 b2) (word_splits 3 b3) (word_splits 2 b4) (word_splits 1 b5) (word_splits 0 b6)
    (first_low bytes are) (first_low b1 a1) (first_low b2 a2) (first_low b3 a3) (first_low b4 a4)
    (first_low b5 a5) (first_low b6 a6) in
    is ∙ omega (
      arith,
      high_splits 6 bytes,
      high_splits 5 b1,
      high_splits 4 b2,
      high_splits 3 b3,
      high_splits 2 b4,
      high_splits 1 b5,
      high_splits 0 b6,
    )

high_low : (n : ℕ) (bytes : List ℕ) → AreBytes bytes → high n bytes < 256 ^ n
high_low zero bytes are = omega arith
high_low (suc n) [] are = power_some (suc n)
high_low (suc n) (b ∷ bytes) are =
    omega (arith, mul-add-lt b (256 ^ n) (high n bytes) 256 are.1 (high_low n bytes are.2))

-- a greater first byte weighs more than all that comes after
outweighs : (x y p h k : ℕ) → h < p → x < y → x * p + h < y * p + k
outweighs x y p h k low less = omega (arith, mul-add-lt x p h y less low, mul_comm p y)

least : (b p h : ℕ) → 1 ≤ b → 0 < p → 0 < b * p + h
least b p h some full = omega (arith, le-mul_of_pos_right b full)

-- a byte that comes first
after_less : (x y : ℕ) (xs ys : List ℕ) → x < y → name_cmp (x ∷ xs) (y ∷ ys) ≡ Less
after_less x y xs ys less = grind (arith, nat_tests)

after_more : (x y : ℕ) (xs ys : List ℕ) → y < x → name_cmp (x ∷ xs) (y ∷ ys) ≡ Greater
after_more x y xs ys more = grind (arith, nat_tests)

after_same : (x y : ℕ) (xs ys : List ℕ) → x ≡ y → name_cmp (x ∷ xs) (y ∷ ys) ≡ name_cmp xs ys
after_same x y xs ys same = grind (arith, nat_tests)

high_less : (n : ℕ) (xs ys : List ℕ) → AreBytes xs → AreBytes ys → high n xs < high n ys
    → name_cmp xs ys ≡ Less
high_less zero xs ys ax ay less = absurd (omega (arith, less))
high_less (suc n) [] [] ax ay less = absurd (omega (arith, less))
high_less (suc n) [] (y ∷ ys) ax ay less = refl
high_less (suc n) (x ∷ xs) [] ax ay less = absurd (omega (arith, less))
high_less (suc n) (x ∷ xs) (y ∷ ys) ax ay less =
    ⊎_elim
    (λ (same : x ≡ y).
    after_same x y xs ys same
    ∙ high_less n xs ys ax.2 ay.2 (omega (arith, less, ap (λ (b : ℕ). b * 256 ^ n) same)))
    (λ apart.
    ⊎_elim (λ (below : x < y). after_less x y xs ys below)
    (λ (above : y < x).
    absurd
    (omega (
      arith,
      less,
      outweighs y x (256 ^ n) (high n ys) (high n xs) (high_low n ys ay.2) above,
    )))
    apart)
    (cases_order x y)

high_more : (n : ℕ) (xs ys : List ℕ) → AreBytes xs → AreBytes ys → high n ys < high n xs
    → name_cmp xs ys ≡ Greater
high_more zero xs ys ax ay more = absurd (omega (arith, more))
high_more (suc n) [] [] ax ay more = absurd (omega (arith, more))
high_more (suc n) (x ∷ xs) [] ax ay more = refl
high_more (suc n) [] (y ∷ ys) ax ay more = absurd (omega (arith, more))
high_more (suc n) (x ∷ xs) (y ∷ ys) ax ay more =
    ⊎_elim
    (λ (same : x ≡ y).
    after_same x y xs ys same
    ∙ high_more n xs ys ax.2 ay.2 (omega (arith, more, ap (λ (b : ℕ). b * 256 ^ n) same)))
    (λ apart.
    ⊎_elim
    (λ (below : x < y).
    absurd
    (omega (
      arith,
      more,
      outweighs x y (256 ^ n) (high n xs) (high n ys) (high_low n xs ax.2) below,
    )))
    (λ (above : y < x). after_more x y xs ys above)
    apart)
    (cases_order x y)

-- numbers that end in a byte 0 end in one after a whole number of bytes too
ends_on : (x n h : ℕ) → (x * 256 ^ suc n + h) % 256 ≡ 0 → h % 256 ≡ 0
ends_on x n h end =
    let split : x * 256 ^ suc n ≡ x * 256 ^ n * 256 =
    ap (λ (p : ℕ). x * p) (pow-suc 256 n) ∙ sym (mul_assoc x (256 ^ n) 256) in
    omega (arith, end, split)

high_end : (n : ℕ) (xs ys : List ℕ) → AreBytes xs → AreBytes ys
    → high (suc n) xs ≡ high (suc n) ys → high (suc n) xs % 256 ≡ 0 → name_cmp xs ys ≡ Equal
high_end n [] [] ax ay same end = refl
high_end n [] (y ∷ ys) ax ay same end =
    absurd (omega (arith, same, least y (256 ^ n) (high n ys) ay.0 (power_some n)))
high_end n (x ∷ xs) [] ax ay same end =
    absurd (omega (arith, same, least x (256 ^ n) (high n xs) ax.0 (power_some n)))
high_end zero (x ∷ xs) (y ∷ ys) ax ay same end = absurd (omega (arith, end, ax.0, ax.1))
high_end (suc n) (x ∷ xs) (y ∷ ys) ax ay same end =
    let parts =
    same_from_place x (high (suc n) xs) y (high (suc n) ys) (256 ^ suc n)
    (high_low (suc n) xs ax.2) (high_low (suc n) ys ay.2) same in
    after_same x y xs ys parts.0
    ∙ high_end n xs ys ax.2 ay.2 parts.1 (ends_on x n (high (suc n) xs) end)

-- the first word of a name that is written
first_word : (t : Term) → IsFive t → IsName t → number (part 1 t) ≡ word_of 7 (text_of t)
first_word null five_is is = absurd five_is
first_word (num n) five_is is = absurd five_is
first_word (five a b c d e) five_is is = ap number is.spells.0.first

-- a name against one that is written, of which the first word was read
module _ (name : List ℕ) (t : Term) (head read theirs : ℕ) (is : is_name name ≡ true)
    (five_is : IsFive t) (written : IsName t) (own : head ≡ head_of name)
    (word : read ≡ number (part 1 t)) (turn : theirs ≡ swap_bytes w64 read) where
  theirs_is : theirs ≡ 256 * high 7 (text_of t)
  theirs_is =
      turn ∙ ap (λ (w : ℕ). swap_bytes w64 w) (word ∙ first_word t five_is written)
      ∙ head_high (text_of t) (name_bytes (text_of t) written.name)

  own_is : head ≡ 256 * high 7 name
  own_is = own ∙ head_high name (name_bytes name is)

  pub head_less : head < theirs → Less ≡ name_cmp name (text_of t)
  head_less less =
      sym
      (high_less 7 name (text_of t) (name_bytes name is)
      (name_bytes (text_of t) written.name) (omega (arith, less, own_is, theirs_is)))

  pub head_more : theirs < head → Greater ≡ name_cmp name (text_of t)
  head_more more =
      sym
      (high_more 7 name (text_of t) (name_bytes name is)
      (name_bytes (text_of t) written.name) (omega (arith, more, own_is, theirs_is)))

  pub head_end : head ≡ theirs → head % 65536 ≡ 0 → Equal ≡ name_cmp name (text_of t)
  head_end same end =
      sym
      (high_end 6 name (text_of t) (name_bytes name is)
      (name_bytes (text_of t) written.name) (omega (arith, same, own_is, theirs_is))
      (omega (arith, end, own_is)))
