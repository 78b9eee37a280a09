-- How one byte of a text is written and read.
use Rattle.std.proofs.Common.{◌≡◌, ℕ, true, false, List, [], ◌∷◌, ◌++◌, Some, None}
use Rattle.std.proofs.Common.{refl, sym, ap, subst, ◌∙◌, arith}
use Rattle.std.specs.Prelude.{◌==◌, if◌then◌else◌}
use Rattle.std.proofs.lemmas.Bool.{cond-true, cond-false, eqb-true}
use Rattle.std.proofs.lemmas.Bool.Decides.{nat_tests}
use Rattle.quoted_text.specs.Quoted.{escaped, inside_of, is_raw, unescaped, with_byte}
use Rattle.doc_tree.specs.Words.{is_text_byte}

-- a byte that stands for itself
raw_escaped : (b : ℕ) → is_raw b ≡ true → escaped b ≡ b ∷ []
raw_escaped b raw = grind (arith, nat_tests)

pub raw_is_text : (b : ℕ) → is_raw b ≡ true → is_text_byte b ≡ true
raw_is_text b raw = grind (arith, nat_tests)

text_is_raw : (b : ℕ) → is_text_byte b ≡ true → (b == 34) ≡ false → (b == 92) ≡ false
    → (b == 9) ≡ false → (b == 10) ≡ false → is_raw b ≡ true
text_is_raw b is quote slash tab feed = grind (arith, nat_tests)

raw_no_slash : (b : ℕ) → is_raw b ≡ true → (b == 92) ≡ false
raw_no_slash b raw = grind (arith, nat_tests)

raw_read : (b c : ℕ) (rest : List ℕ) → is_raw b ≡ true
    → inside_of (b ∷ c ∷ rest) ≡ with_byte (Some b) (inside_of (c ∷ rest))
raw_read b c rest raw =
    cond-false (b == 92) (with_byte (unescaped c) (inside_of rest)) _ (raw_no_slash b raw)
    ∙ cond-true (is_raw b) (with_byte (Some b) (inside_of (c ∷ rest))) None raw

-- a byte that is written before the rest of a text is read
abbrev IsReadAs : List ℕ → List ℕ → ℕ → Type 0
IsReadAs rest text b = inside_of (escaped b ++ rest) ≡ Some (b ∷ text)

pub byte_read : (b : ℕ) (rest text : List ℕ) → is_text_byte b ≡ true → inside_of rest ≡ Some text
    → inside_of (escaped b ++ rest) ≡ Some (b ∷ text)
byte_read b [] text is later = cc
byte_read b (c ∷ rest) text is later =
    let Goal = IsReadAs (c ∷ rest) text in
    elim (b == 34) as (λ t. (b == 34) ≡ t → IsReadAs (c ∷ rest) text b) [
      | true ↦ λ e. subst Goal (sym (eqb-true b 34 e)) (ap (with_byte (Some 34)) later)
      | false ↦ λ quote. elim (b == 92) as (λ t. (b == 92) ≡ t → IsReadAs (c ∷ rest) text b) [
        | true ↦ λ e. subst Goal (sym (eqb-true b 92 e)) (ap (with_byte (Some 92)) later)
        | false ↦ λ slash. elim (b == 9) as (λ t. (b == 9) ≡ t → IsReadAs (c ∷ rest) text b) [
          | true ↦ λ e. subst Goal (sym (eqb-true b 9 e)) (ap (with_byte (Some 9)) later)
          | false ↦ λ tab. elim (b == 10) as (λ t. (b == 10) ≡ t → IsReadAs (c ∷ rest) text b) [
            | true ↦ λ e. subst Goal (sym (eqb-true b 10 e)) (ap (with_byte (Some 10)) later)
            | false ↦ λ feed. (
                let raw = text_is_raw b is quote slash tab feed in
                ap (λ (bs : List ℕ). inside_of (bs ++ (c ∷ rest))) (raw_escaped b raw)
                ∙ raw_read b c rest raw ∙ ap (with_byte (Some b)) later
                )
          ] refl
        ] refl
      ] refl
    ] refl

-- what an escape stands for is written so
abbrev IsBack : ℕ → ℕ → Type 0
IsBack c b = (escaped b ≡ 92 ∷ c ∷ []) × (is_text_byte b ≡ true)

back_at : (c b x y : ℕ) → (c == x) ≡ true → Some y ≡ Some b → IsBack x y → IsBack c b
back_at c b x y e is back =
    let same : y ≡ b = cc in
    subst (λ n. IsBack n b) (sym (eqb-true c x e)) (subst (IsBack x) same back)

feed_back : (c b : ℕ) → (if c == 110 then Some 10 else None) ≡ Some b → IsBack c b
feed_back c b is =
    elim (c == 110) as (λ t. (c == 110) ≡ t → (if t then Some 10 else None) ≡ Some b → IsBack c b) [
      | true ↦ λ e h. back_at c b 110 10 e h (refl, refl)
      | false ↦ λ _ h. cc
    ] refl is

tab_back : (c b : ℕ) → (if c == 116 then Some 9 else if c == 110 then Some 10 else None) ≡ Some b
    → IsBack c b
tab_back c b is =
    elim (c == 116) as (λ t. (c == 116) ≡ t
    → (if t then Some 9 else if c == 110 then Some 10 else None) ≡ Some b → IsBack c b) [
      | true ↦ λ e h. back_at c b 116 9 e h (refl, refl)
      | false ↦ λ _ h. feed_back c b h
    ] refl is

slash_back : (c b : ℕ)
    → (if c == 92 then Some 92 else if c == 116 then Some 9 else if c == 110 then Some 10 else None)
    ≡ Some b → IsBack c b
slash_back c b is =
    elim (c == 92) as (λ t. (c == 92) ≡ t
    → (if t then Some 92 else if c == 116 then Some 9 else if c == 110 then Some 10 else None)
    ≡ Some b → IsBack c b) [
      | true ↦ λ e h. back_at c b 92 92 e h (refl, refl)
      | false ↦ λ _ h. tab_back c b h
    ] refl is

pub escape_back : (c b : ℕ) → unescaped c ≡ Some b
    → (escaped b ≡ 92 ∷ c ∷ []) × (is_text_byte b ≡ true)
escape_back c b is =
    elim (c == 34) as (λ t. (c == 34) ≡ t → (if t then Some 34 else if c == 92 then Some 92
    else if c == 116 then Some 9 else if c == 110 then Some 10 else None) ≡ Some b → IsBack c b) [
      | true ↦ λ e h. back_at c b 34 34 e h (refl, refl)
      | false ↦ λ _ h. slash_back c b h
    ] refl is

pub raw_back : (b : ℕ) → is_raw b ≡ true → (escaped b ≡ b ∷ []) × (is_text_byte b ≡ true)
raw_back b raw = (raw_escaped b raw, raw_is_text b raw)
