-- The fields of a cell, written one after the other.
use Rattle.std.proofs.Common.{◌≡◌, ◌≤◌, ◌+◌, ◌++◌, ◌∙◌, ℕ, zero, suc, List, [], codes, append_assoc}
use Rattle.std.proofs.Common.{add-one, ap, arith}
use Rattle.core_machine.specs.State.{State, field_of}
use Rattle.core_replay.specs.ReplayText.{fields_text}
use Rattle.line_texts.specs.CellTexts.{field_text}

-- the first fields, each after a space
abbrev pub first_fields : State → ℕ → ℕ → List ℕ
first_fields s c zero = []
first_fields s c (suc i) = first_fields s c i ++ (codes " " ++ field_text (field_of s c i))

pub fields_more : (s : State) (c i : ℕ) (text more : List ℕ) → text ≡ first_fields s c i
    → more ≡ text ++ (codes " " ++ field_text (field_of s c i))
    → more ≡ first_fields s c (i + 1)
fields_more s c i text more so_far adds =
    rw add-one (adds ∙ ap (λ first. first ++ (codes " " ++ field_text (field_of s c i))) so_far)

regroup : (o a b c d e f : List ℕ)
    → ((((((o ++ a) ++ (o ++ b)) ++ (o ++ c)) ++ (o ++ d)) ++ (o ++ e)) ++ (o ++ f))
    ≡ o ++ (a ++ (o ++ (b ++ (o ++ (c ++ (o ++ (d ++ (o ++ (e ++ (o ++ f))))))))))
regroup o a b c d e f = simp append_assoc

pub all_fields : (s : State) (c i : ℕ) (text : List ℕ) → text ≡ first_fields s c i → i ≤ 6 → 6 ≤ i
    → text ≡ codes " " ++ fields_text s c
all_fields s c i text so_far most least =
    let all : i ≡ 6 = omega arith in
    so_far ∙ ap (first_fields s c) all
    ∙ regroup (codes " ") (field_text (field_of s c 0)) (field_text (field_of s c 1))
    (field_text (field_of s c 2)) (field_text (field_of s c 3)) (field_text (field_of s c 4))
    (field_text (field_of s c 5))
