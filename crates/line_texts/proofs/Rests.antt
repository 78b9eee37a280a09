-- What is left of a text after a line of it, and whether more follows.
use Rattle.std.proofs.Common.{◌≡◌, ℕ, ◌+◌, ◌<◌, Bool, true, false, cond, List, [], ◌∷◌, length}
use Rattle.std.proofs.Common.{Option, Some, None, Bor, refl, sym, ◌∙◌, arith, eqb}
use Rattle.std.specs.Prelude.{MatchOption, is_some, ◌==◌}
use Rattle.std.specs.List.{onto_first}
use Rattle.std.proofs.lemmas.Bool.{ne_eqb}
use Rattle.std.proofs.lemmas.List.Splits.{length-slice_split}
use Rattle.line_texts.specs.Lines.{has_feed, is_end, lines_left, lines_of}

-- how long the lines that are left may still be
abbrev pub left : Option (Bor (List ℕ)) → ℕ
left None = 0
left (Some rest) = length rest.now + 1

-- where a line ends
abbrev pub IsCut : List ℕ → List ℕ → Option (Bor (List ℕ)) → Type 0
IsCut bytes line rest =
    MatchOption rest (lines_of bytes ≡ line ∷ [])
    (λ more. lines_of bytes ≡ line ∷ lines_of more.now)

pub cut_lines : (bytes line : List ℕ) (rest : Option (Bor (List ℕ))) → IsCut bytes line rest
    → lines_of bytes ≡ line ∷ lines_left rest
cut_lines bytes line None is = is
cut_lines bytes line (Some more) is = is

some_lines : (lines : List (List ℕ)) → 0 < length lines → has_feed lines ≡ true
some_lines [] some = absurd (omega arith)
some_lines (line ∷ lines) some = refl

pub fed_lines : (bytes : List ℕ) → has_feed (lines_of bytes) ≡ true
fed_lines bytes =
    some_lines (lines_of bytes)
    (omega (arith, length-slice_split (λ byte. byte == 10) bytes))

pub has_lines : (rest : Option (Bor (List ℕ))) → has_feed (lines_left rest) ≡ is_some rest
has_lines None = refl
has_lines (Some rest) = fed_lines rest.now

not_end : (bytes : List ℕ) → 0 < length bytes → is_end (lines_of bytes) ≡ false
not_end [] some = absurd (omega arith)
not_end (b ∷ bytes) some =
    elim (eqb b 10)
    as (λ t. is_end (cond t ([] ∷ lines_of bytes) (onto_first b (lines_of bytes))) ≡ false) [
      | true ↦
          elim (lines_of bytes) as (λ ls. has_feed ls ≡ true → is_end ([] ∷ ls) ≡ false)
          [ [] ↦ λ h. cc | l ∷ ls ↦ λ h. refl ] (fed_lines bytes)
      | false ↦
          elim (lines_of bytes) as (λ ls. is_end (onto_first b ls) ≡ false)
          [ [] ↦ refl | l ∷ ls ↦ refl ]
    ]

pub empty_ends : (rest : List ℕ) (has : Bool) → has ≡ eqb (length rest) 0
    → has ≡ is_end (lines_of rest)
empty_ends [] has is = is
empty_ends (b ∷ rest) has is =
    is ∙ ne_eqb (length (b ∷ rest)) 0 (λ same. omega (arith, same))
    ∙ sym (not_end (b ∷ rest) (omega arith))
