-- Bytes without a certain one: where lines, words and names end.
use Rattle.std.proofs.Common.{◌≡◌, ℕ, suc, ◌+◌, ◌<◌, ◌≤◌, ◌^◌, Bool, true, false, not, ◌&&◌}
use Rattle.std.proofs.Common.{cond, List, [], ◌∷◌, ◌++◌, length, take, drop, refl}
use Rattle.std.proofs.Common.{sym, ap, subst, ◌∙◌, append_assoc, arith}
use Rattle.std.specs.Prelude.{◌==◌, ◌⊎◌, decimal}
use Rattle.std.proofs.Common.{inl, inr}
use Rattle.std.specs.List.{flat_map, list_all, onto_first, position_or_len}
use Rattle.std.specs.List.{slice_split}
use Rattle.std.specs.Str.Parse.{AllDigits}
use Rattle.std.proofs.Math.Seq.{drop-append_seam, take-append_seam}
use Rattle.std.proofs.lemmas.Bool.{and_from, and_parts, eqb-true}
use Rattle.std.proofs.lemmas.Bool.Decides.{nat_tests}
use Rattle.std.proofs.lemmas.Fmt.{decimal_is_IsNumeral}
use Rattle.std.proofs.lemmas.List.{take-append-drop}
use Rattle.std.proofs.lemmas.List.Folds.{list_all-append}
use Rattle.std.proofs.lemmas.Str.Parse.{digit_from_value}
use Rattle.doc_tree.specs.Words.{are_names, is_name, is_name_byte, pieces}
use Rattle.line_texts.specs.Cut.{is_space, rest_of, word_of}
use Rattle.line_texts.specs.Lines.{lines_of}
use Rattle.quoted_text.specs.Quoted.{escaped, quoted_of}
use Rattle.dump_text.specs.Dump.{end_text, fed, head_text, node_text, path_text, root_text}

-- none of the bytes is this one
abbrev pub lacks : ℕ → List ℕ → Bool
lacks c bytes = list_all (λ b. not (b == c)) bytes

pub lacks-append : (c : ℕ) (xs ys : List ℕ) → lacks c xs ≡ true → lacks c ys ≡ true
    → lacks c (xs ++ ys) ≡ true
lacks-append c xs ys left right =
    list_all-append (λ b. not (b == c)) xs ys
    ∙ and_from (lacks c xs) (lacks c ys) left right

pub all_pass : (p q : ℕ → Bool) (xs : List ℕ) → ((b : ℕ) → p b ≡ true → q b ≡ true)
    → list_all p xs ≡ true → list_all q xs ≡ true
all_pass p q [] next all = refl
all_pass p q (x ∷ xs) next all =
    let parts = and_parts (p x) (list_all p xs) all in
    and_from (q x) (list_all q xs) (next x parts.0) (all_pass p q xs next parts.1)

not_this : (b c : ℕ) → not (b == c) ≡ true → (b == c) ≡ false
not_this b c is =
    elim (b == c) as (λ t. not t ≡ true → t ≡ false) [ true ↦ λ h. cc | false ↦ λ h. refl ] is

-- cut at the first such byte
pub split_at : (c : ℕ) (xs ys : List ℕ) → lacks c xs ≡ true
    → slice_split (λ b. b == c) (xs ++ c ∷ ys) ≡ xs ∷ slice_split (λ b. b == c) ys
split_at c [] ys none =
    let same : (c == c) ≡ true = grind (arith, nat_tests) in
    ap (λ t. cond t ([] ∷ slice_split (λ b. b == c) ys)
    (onto_first c (slice_split (λ b. b == c) ys))) same
split_at c (x ∷ xs) ys none =
    let parts = and_parts (not (x == c)) (lacks c xs) none in
    let rest = slice_split (λ b. b == c) (xs ++ c ∷ ys) in
    ap (λ t. cond t ([] ∷ rest) (onto_first x rest)) (not_this x c parts.0)
    ∙ ap (onto_first x) (split_at c xs ys parts.1)

pub split_none : (c : ℕ) (xs : List ℕ) → lacks c xs ≡ true
    → slice_split (λ b. b == c) xs ≡ xs ∷ []
split_none c [] none = refl
split_none c (x ∷ xs) none =
    let parts = and_parts (not (x == c)) (lacks c xs) none in
    let rest = slice_split (λ b. b == c) xs in
    ap (λ t. cond t ([] ∷ rest) (onto_first x rest)) (not_this x c parts.0)
    ∙ ap (onto_first x) (split_none c xs parts.1)

-- a line
pub line_first : (text rest : List ℕ) → lacks 10 text ≡ true
    → lines_of (fed text ++ rest) ≡ text ∷ lines_of rest
line_first text rest none =
    ap lines_of (append_assoc text (10 ∷ []) rest) ∙ split_at 10 text rest none

-- a word
word_length : (xs ys : List ℕ) → lacks 32 xs ≡ true
    → position_or_len is_space (xs ++ 32 ∷ ys) ≡ length xs
word_length [] ys none = refl
word_length (x ∷ xs) ys none =
    let parts = and_parts (not (x == 32)) (lacks 32 xs) none in
    let n = position_or_len is_space (xs ++ 32 ∷ ys) in
    ap (λ t. cond t (1 + n) 0) parts.0 ∙ omega (arith, word_length xs ys parts.1)

pub word_first : (xs ys : List ℕ) → lacks 32 xs ≡ true → word_of (xs ++ 32 ∷ ys) ≡ xs
word_first xs ys none =
    ap (λ n. take n (xs ++ 32 ∷ ys)) (word_length xs ys none) ∙ take-append_seam xs (32 ∷ ys)

pub word_rest : (xs ys : List ℕ) → lacks 32 xs ≡ true → rest_of (xs ++ 32 ∷ ys) ≡ 32 ∷ ys
word_rest xs ys none =
    ap (λ n. drop n (xs ++ 32 ∷ ys)) (word_length xs ys none) ∙ drop-append_seam xs (32 ∷ ys)

pub word_and_rest : (line : List ℕ) → line ≡ word_of line ++ rest_of line
word_and_rest line = sym (take-append-drop (position_or_len is_space line) line)

-- what comes after a word begins with the space, if there is something
pub rest_cases : (line : List ℕ) → (rest_of line ≡ []) ⊎ (rest_of line ≡ 32 ∷ drop 1 (rest_of line))
rest_cases [] = inl refl
rest_cases (x ∷ xs) =
    let n = position_or_len is_space xs in
    elim (x == 32) as (λ t. (x == 32) ≡ t → (drop (cond (not t) (1 + n) 0) (x ∷ xs) ≡ [])
    ⊎ (drop (cond (not t) (1 + n) 0) (x ∷ xs)
    ≡ 32 ∷ drop 1 (drop (cond (not t) (1 + n) 0) (x ∷ xs)))) [
      | true ↦ λ e. inr (ap (λ (y : ℕ). y ∷ xs) (eqb-true x 32 e))
      | false ↦ λ e. (
          let one : 1 + n ≡ suc n = omega arith in
          subst (λ k. (drop k (x ∷ xs) ≡ []) ⊎ (drop k (x ∷ xs) ≡ 32 ∷ drop 1 (drop k (x ∷ xs))))
          (sym one) (rest_cases xs)
          )
    ] refl

-- names and paths
name_byte : (b : ℕ) → is_name_byte b ≡ true
    → (not (b == 10) ≡ true) × (not (b == 32) ≡ true) × (not (b == 47) ≡ true)
name_byte b is =
    (grind (arith, nat_tests), grind (arith, nat_tests), grind (arith, nat_tests))

name_bytes : (name : List ℕ) → is_name name ≡ true → list_all is_name_byte name ≡ true
name_bytes name is = (and_parts _ (list_all is_name_byte name) is).1

pub name_lacks : (name : List ℕ) → is_name name ≡ true
    → (lacks 10 name ≡ true) × (lacks 32 name ≡ true) × (lacks 47 name ≡ true)
name_lacks name is =
    let bytes = name_bytes name is in (
      all_pass is_name_byte (λ b. not (b == 10)) name (λ b h. (name_byte b h).0) bytes,
      all_pass is_name_byte (λ b. not (b == 32)) name (λ b h. (name_byte b h).1) bytes,
      all_pass is_name_byte (λ b. not (b == 47)) name (λ b h. (name_byte b h).2) bytes,
    )

pub path_lacks : (path : List (List ℕ)) → are_names path ≡ true
    → (lacks 10 (path_text path) ≡ true) × (lacks 32 (path_text path) ≡ true)
path_lacks [] all = (refl, refl)
path_lacks (n ∷ []) all =
    let one = name_lacks n (and_parts (is_name n) true all).0 in (one.0, one.1)
path_lacks (n ∷ m ∷ path) all =
    let parts = and_parts (is_name n) (are_names (m ∷ path)) all in
    let one = name_lacks n parts.0 in
    let later = path_lacks (m ∷ path) parts.1 in (
      lacks-append 10 n (47 ∷ path_text (m ∷ path)) one.0 later.0,
      lacks-append 32 n (47 ∷ path_text (m ∷ path)) one.1 later.1,
    )

pub path_pieces : (n : List ℕ) (path : List (List ℕ)) → are_names (n ∷ path) ≡ true
    → pieces (path_text (n ∷ path)) ≡ n ∷ path
path_pieces n [] all = split_none 47 n (name_lacks n (and_parts (is_name n) true all).0).2
path_pieces n (m ∷ path) all =
    let parts = and_parts (is_name n) (are_names (m ∷ path)) all in
    split_at 47 n (path_text (m ∷ path)) (name_lacks n parts.0).2
    ∙ ap (λ (ps : List (List ℕ)). n ∷ ps) (path_pieces m path parts.1)

-- quoted texts
escaped_lacks : (b : ℕ) → lacks 10 (escaped b) ≡ true
escaped_lacks b =
    elim (b == 34) as (λ t. lacks 10 (cond t (92 ∷ 34 ∷ []) (cond (b == 92) (92 ∷ 92 ∷ [])
    (cond (b == 9) (92 ∷ 116 ∷ []) (cond (b == 10) (92 ∷ 110 ∷ []) (b ∷ []))))) ≡ true) [
      | true ↦ refl
      | false ↦ elim (b == 92) as (λ t. lacks 10 (cond t (92 ∷ 92 ∷ [])
          (cond (b == 9) (92 ∷ 116 ∷ []) (cond (b == 10) (92 ∷ 110 ∷ []) (b ∷ [])))) ≡ true) [
            | true ↦ refl
            | false ↦ elim (b == 9) as (λ t. lacks 10 (cond t (92 ∷ 116 ∷ [])
                (cond (b == 10) (92 ∷ 110 ∷ []) (b ∷ []))) ≡ true) [
                  | true ↦ refl
                  | false ↦ elim (b == 10) as (λ t. (b == 10) ≡ t
                      → lacks 10 (cond t (92 ∷ 110 ∷ []) (b ∷ [])) ≡ true) [
                        | true ↦ λ e. refl
                        | false ↦ λ e. ap (λ t. not t && true) e
                      ] refl
                ]
          ]
    ]

inside_lacks : (text : List ℕ) → lacks 10 (flat_map escaped text) ≡ true
inside_lacks [] = refl
inside_lacks (b ∷ text) =
    lacks-append 10 (escaped b) (flat_map escaped text) (escaped_lacks b) (inside_lacks text)

pub quoted_lacks : (text : List ℕ) → lacks 10 (quoted_of text) ≡ true
quoted_lacks text = lacks-append 10 (flat_map escaped text) (34 ∷ []) (inside_lacks text) refl

-- numbers
digit_passes : (b : ℕ) → 48 ≤ b → b ≤ 57 → not (b == 10) ≡ true
digit_passes b low high = grind (arith, nat_tests)

digits_lack : (digits : List ℕ) → AllDigits 10 digits → lacks 10 digits ≡ true
digits_lack [] all = refl
digits_lack (b ∷ digits) all =
    let range = digit_from_value b all.0 in
    and_from (not (b == 10)) (lacks 10 digits) (digit_passes b range.0 range.1)
    (digits_lack digits all.1)

pub decimal_lacks : (n : ℕ) → n < 2 ^ 64 → lacks 10 (decimal n) ≡ true
decimal_lacks n small = digits_lack (decimal n) (decimal_is_IsNumeral n small).0.1

-- the texts of all lines
pub head_lacks : (v : ℕ) → v < 2 ^ 64 → lacks 10 (head_text v) ≡ true
head_lacks v small = decimal_lacks v small

pub end_lacks : (n : ℕ) → n < 2 ^ 64 → lacks 10 (end_text n) ≡ true
end_lacks n small = decimal_lacks n small

pub root_lacks : (text : List ℕ) → lacks 10 (root_text text) ≡ true
root_lacks text = quoted_lacks text

pub node_lacks : (path : List (List ℕ)) (text : List ℕ) → are_names path ≡ true
    → lacks 10 (node_text path text) ≡ true
node_lacks path text all =
    lacks-append 10 (path_text path) (32 ∷ quoted_of text) (path_lacks path all).0
    (quoted_lacks text)
