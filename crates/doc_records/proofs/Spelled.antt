-- Texts as they are spelled: a chain of few cells, whose words in order are those of the bytes.
use Rattle.std.proofs.Common.{◌≡◌, ℕ, zero, suc, ◌+◌, ◌-◌, ◌*◌, ◌/◌, ◌%◌, ◌<◌, ◌≤◌, Bool, true}
use Rattle.std.proofs.Common.{List, [], ◌∷◌, ◌++◌, length, take, drop, map, min, refl, subst, sym}
use Rattle.std.proofs.Common.{ap, ◌∙◌, arith, length-drop, append_assoc}
use Rattle.std.specs.List.{list_all}
use Rattle.std.proofs.lemmas.Bool.{and_parts}
use Rattle.std.proofs.lemmas.Bool.Decides.{nat_tests}
use Rattle.std.proofs.lemmas.List.{drop-drop, take-append-drop}
use Rattle.cell_words.specs.Term.{Term, null, num, five}
use Rattle.cell_words.specs.declared.fields.Field.TheVariants as field
use Rattle.trails.specs.Asks.{Ask, gave}
use Rattle.doc_tree.specs.Words.{is_name_byte, is_text_byte, is_name, is_text}
use Rattle.doc_records.specs.Words.{word_of, bytes_of}
use Rattle.doc_records.specs.Shapes.{IsNum, IsChain, cells_of, ask_word, ask_text}
use Rattle.doc_records.specs.Texts.{SpellsText, text_of, words_past, words_of, text_asks}

-- bytes that are not 0
abbrev pub AreBytes : List ℕ → Type 0
AreBytes [] = Unit {0}
AreBytes (b ∷ bytes) = (1 ≤ b) × (b < 256) × AreBytes bytes

all_bytes : (p : ℕ → Bool) → ((b : ℕ) → p b ≡ true → 1 ≤ b)
    → ((b : ℕ) → p b ≡ true → b < 256) → (bytes : List ℕ) → list_all p bytes ≡ true
    → AreBytes bytes
all_bytes p some low [] e = tt
all_bytes p some low (b ∷ bytes) e =
    let parts = and_parts (p b) (list_all p bytes) e in
    (some b parts.0, low b parts.0, all_bytes p some low bytes parts.1)

name_some : (b : ℕ) → is_name_byte b ≡ true → 1 ≤ b
name_some b e = grind (arith, nat_tests)

name_low : (b : ℕ) → is_name_byte b ≡ true → b < 256
name_low b e = grind (arith, nat_tests)

text_some : (b : ℕ) → is_text_byte b ≡ true → 1 ≤ b
text_some b e = grind (arith, nat_tests)

text_low : (b : ℕ) → is_text_byte b ≡ true → b < 256
text_low b e = grind (arith, nat_tests)

pub name_bytes : (bytes : List ℕ) → is_name bytes ≡ true → AreBytes bytes
name_bytes bytes e =
    all_bytes is_name_byte name_some name_low bytes
    (and_parts _ (list_all is_name_byte bytes) e).1

pub text_bytes : (bytes : List ℕ) → is_text bytes ≡ true → AreBytes bytes
text_bytes bytes e =
    all_bytes is_text_byte text_some text_low bytes
    (and_parts _ (list_all is_text_byte bytes) e).1

bytes_drop : (n : ℕ) (bytes : List ℕ) → AreBytes bytes → AreBytes (drop n bytes)
bytes_drop zero bytes are = are
bytes_drop (suc n) [] are = tt
bytes_drop (suc n) (b ∷ bytes) are = bytes_drop n bytes are.2

-- the chain
num_is : (t : Term) (n : ℕ) → t ≡ num n → IsNum t
num_is t n is = subst IsNum (sym is) tt

pub chain_spelled : (t : Term) (bytes : List ℕ) → SpellsText t bytes → IsChain t
chain_spelled null bytes spells = tt
chain_spelled (num n) bytes spells = spells
chain_spelled (five a b c d e) bytes spells = (
  num_is a _ spells.0.count,
  num_is b _ spells.0.first,
  num_is c _ spells.0.second,
  num_is d _ spells.0.third,
  chain_spelled e (drop 21 bytes) spells.1,
)

pub cells_spelled : (t : Term) (bytes : List ℕ) → SpellsText t bytes
    → 21 * cells_of t ≤ length bytes + 20
cells_spelled null bytes spells = omega arith
cells_spelled (num n) bytes spells = absurd spells
cells_spelled (five a b c d e) bytes spells =
    grind (
      arith,
      spells.0.some,
      cells_spelled e (drop 21 bytes) spells.1,
      length-drop 21 bytes,
    )

-- the words
past_drop : (n : ℕ) (bytes : List ℕ) → words_past n bytes ≡ words_of (drop n bytes)
past_drop zero bytes = refl
past_drop (suc n) [] = refl
past_drop (suc n) (b ∷ bytes) = past_drop n bytes

ask_some : (n : ℕ) (rest : List Ask) → 1 ≤ n → ask_word n rest ≡ gave (field.Num n) ∷ rest
ask_some zero rest some = absurd (omega (arith, some))
ask_some (suc n) rest some = refl

ask_step : (bytes : List ℕ) (rest : List Ask) → AreBytes bytes
    → ask_word (word_of 7 bytes) (text_asks (drop 7 bytes) ++ rest) ≡ text_asks bytes ++ rest
ask_step [] rest are = refl
ask_step (b ∷ bytes) rest are =
    ask_some (word_of 7 (b ∷ bytes)) _ (omega (arith, are.0))
    ∙ ap (λ words. gave (field.Num (word_of 7 (b ∷ bytes)))
    ∷ (map (λ word. gave (field.Num word)) words ++ rest)) (sym (past_drop 6 bytes))

pub ask_spelled : (t : Term) (bytes : List ℕ) (rest : List Ask) → SpellsText t bytes
    → AreBytes bytes → ask_text t rest ≡ text_asks bytes ++ rest
ask_spelled null bytes rest spells are = rw spells refl
ask_spelled (num n) bytes rest spells are = absurd spells
ask_spelled (five a b c d e) bytes rest spells are =
    let behind = ask_spelled e (drop 21 bytes) rest spells.1 (bytes_drop 21 bytes are) in
    rw (spells.0.first, spells.0.second, spells.0.third, behind)
    (ap (λ asks. ask_word (word_of 7 bytes) (ask_word (word_of 7 (drop 7 bytes)) asks))
    (ap (λ left. ask_word (word_of 7 (drop 14 bytes)) (text_asks left ++ rest))
    (sym (drop-drop 7 14 bytes)) ∙ ask_step (drop 14 bytes) rest (bytes_drop 14 bytes are))
    ∙ ap (ask_word (word_of 7 bytes))
    (ap (λ left. ask_word (word_of 7 (drop 7 bytes)) (text_asks left ++ rest))
    (sym (drop-drop 7 7 bytes)) ∙ ask_step (drop 7 bytes) rest (bytes_drop 7 bytes are))
    ∙ ask_step bytes rest are)

-- the bytes
word_back : (n m : ℕ) (bytes : List ℕ) → m ≡ min n (length bytes) → AreBytes bytes
    → bytes_of m (word_of n bytes) ≡ take n bytes
word_back zero m bytes e are = let none : m ≡ 0 = omega (arith, e) in rw none refl
word_back (suc n) m [] e are = let none : m ≡ 0 = omega (arith, e) in rw none refl
word_back (suc n) zero (b ∷ bytes) e are = absurd (omega (arith, e))
word_back (suc n) (suc m) (b ∷ bytes) e are =
    let low : (b + 256 * word_of n bytes) % 256 ≡ b = omega (arith, are.1) in
    let high : (b + 256 * word_of n bytes) / 256 ≡ word_of n bytes = omega (arith, are.1) in
    let fewer : m ≡ min n (length bytes) = omega (arith, e) in
    rw (low, high) (ap (λ more. b ∷ more) (word_back n m bytes fewer are.2))

cut_again : (n m : ℕ) (bytes : List ℕ) → take n (drop m bytes) ++ drop (m + n) bytes ≡ drop m bytes
cut_again n m bytes =
    ap (λ more. take n (drop m bytes) ++ more) (sym (drop-drop n m bytes))
    ∙ take-append-drop n (drop m bytes)

three_cuts : (bytes : List ℕ)
    → (take 7 bytes ++ (take 7 (drop 7 bytes) ++ take 7 (drop 14 bytes))) ++ drop 21 bytes ≡ bytes
three_cuts bytes =
    append_assoc (take 7 bytes) (take 7 (drop 7 bytes) ++ take 7 (drop 14 bytes)) (drop 21 bytes)
    ∙ ap (λ more. take 7 bytes ++ more)
    (append_assoc (take 7 (drop 7 bytes)) (take 7 (drop 14 bytes)) (drop 21 bytes)
    ∙ ap (λ more. take 7 (drop 7 bytes) ++ more) (cut_again 7 14 bytes) ∙ cut_again 7 7 bytes)
    ∙ take-append-drop 7 bytes

pub text_spelled : (t : Term) (bytes : List ℕ) → SpellsText t bytes → AreBytes bytes
    → text_of t ≡ bytes
text_spelled null bytes spells are = sym spells
text_spelled (num n) bytes spells are = absurd spells
text_spelled (five a b c d e) bytes spells are =
    let first = word_back 7 (min 7 (length bytes)) bytes refl are in
    let second =
    word_back 7 (min 7 (length bytes - 7)) (drop 7 bytes) (rw (length-drop 7 bytes) refl)
    (bytes_drop 7 bytes are) in
    let third =
    word_back 7 (min 7 (length bytes - 14)) (drop 14 bytes) (rw (length-drop 14 bytes) refl)
    (bytes_drop 14 bytes are) in
    let behind = text_spelled e (drop 21 bytes) spells.1 (bytes_drop 21 bytes are) in
    rw (
      spells.0.count,
      spells.0.first,
      spells.0.second,
      spells.0.third,
      first,
      second,
      third,
      behind,
    ) (three_cuts bytes)

-- a text that is made
pub drop_least : (n : ℕ) (bytes : List ℕ) → drop (min n (length bytes)) bytes ≡ drop n bytes
drop_least zero bytes =
    let none : min 0 (length bytes) ≡ 0 = omega arith in ap (λ n. drop n bytes) none
drop_least (suc n) [] = let none : min (suc n) 0 ≡ 0 = omega arith in rw none refl
drop_least (suc n) (b ∷ bytes) =
    let less : min (suc n) (suc (length bytes)) ≡ suc (min n (length bytes)) = omega arith in
    rw less (drop_least n bytes)

pub text_made : (t next : Term) (bytes : List ℕ) → 0 < length bytes
    → t ≡ five (num (length bytes)) (num (word_of 7 bytes)) (num (word_of 7 (drop 7 bytes)))
    (num (word_of 7 (drop 14 bytes))) next
    → SpellsText next (drop 21 bytes) → SpellsText t bytes
text_made t next bytes some is spells =
    subst (λ u. SpellsText u bytes) (sym is)
    (record { some = some; count = refl; first = refl; second = refl; third = refl }, spells)

pub cells_made : (bytes : List ℕ) → 0 < length bytes
    → (length bytes + 20) / 21 ≡ (length (drop 21 bytes) + 20) / 21 + 1
cells_made bytes some = omega (arith, some, length-drop 21 bytes)
