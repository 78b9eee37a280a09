-- What the loop over the steps keeps.
use Rattle.std.proofs.Common.{append-nil, append_assoc, ◌≡◌, ◌≤◌, ◌<◌, ◌+◌, ◌*◌, ◌^◌, ◌∙◌, ℕ, List}
use Rattle.std.proofs.Common.{[], ◌∷◌, ◌++◌, Option, Some, None, String, string_bytes, add-one, ap}
use Rattle.std.proofs.Common.{arith, length, drop, get_or, refl, subst, sym}
use Rattle.std.proofs.Math.Seq.{drop-cons}
use Rattle.std.proofs.lemmas.List.{drop_all}
use Rattle.std.specs.declared.alloc.Global.{Global}
use Rattle.core_replay.specs.Outcomes.{told_by}
use Rattle.core_replay.specs.Replay.{Leads, Writes}
use Rattle.core_replay.specs.ReplayText.{not_now_line}
use Rattle.core_replay.specs.Standing.{Standing}
use Rattle.core_replay.specs.Turns.{Went, Stopped}
use Rattle.core_replay.specs.declared.line.Numbered.{Numbered}

-- what is written so far, with what the steps that are left write, is what they all write
abbrev pub SoFar : Standing → Standing → List Numbered → ℕ → List ℕ → Type 0
SoFar p q steps i text = (rest : List ℕ) (last : Standing) → Writes q (drop i steps) rest last
    → Writes p steps (text ++ rest) last

-- what was written when no step is left is all that is written
pub written_all : (p q : Standing) (steps : List Numbered) (i : ℕ) (text : List ℕ)
    → length steps ≤ i → SoFar p q steps i text
    → Writes p steps text q
written_all p q steps i text past so_far =
    let none : drop i steps ≡ [] = drop_all i steps past in
    subst (λ all. Writes p steps all q) (append-nil text)
    (so_far [] q (subst (λ left. Writes q left [] q) (sym none) (refl, refl)))

left : (steps : List Numbered) (i : ℕ) (none : Numbered) → i < length steps
    → get_or steps i none ∷ drop (i + 1) steps ≡ drop i steps
left steps i none more = rw add-one (sym (drop-cons steps i none more))

-- a step that was taken to its end
pub written_more : (p q r : Standing) (steps : List Numbered) (i : ℕ) (none : Numbered)
    (told : Option (String Global)) (shown : String Global) (text all : List ℕ)
    → i < length steps → Leads q (get_or steps i none).step (told_by told r) → told ≡ Some shown
    → all ≡ text ++ string_bytes shown → SoFar p q steps i text → SoFar p r steps (i + 1) all
written_more p q r steps i none told shown text all more leads is adds so_far rest last writes =
    let step = get_or steps i none in
    let went = subst (λ (o : Option (String Global)). Leads q step.step (told_by o r)) is leads in
    let said = string_bytes shown in
    subst (λ whole. Writes p steps whole last)
    (sym (append_assoc text said rest) ∙ ap (λ so. so ++ rest) (sym adds))
    (so_far (said ++ rest) last
    (subst (λ (ls : List Numbered). Writes q ls (said ++ rest) last) (left steps i none more)
    (Went said r, went, (rest, refl, writes))))

-- a step that could not be taken to its end is the last
pub written_last : (p q r : Standing) (steps : List Numbered) (i : ℕ) (none : Numbered)
    (told : Option (String Global)) (text all : List ℕ)
    → i < length steps → Leads q (get_or steps i none).step (told_by told r) → told ≡ None
    → all ≡ text ++ not_now_line (get_or steps i none).line → SoFar p q steps i text
    → Writes p steps all r
written_last p q r steps i none told text all more leads is adds so_far =
    let step = get_or steps i none in
    let said = not_now_line step.line in
    let stopped = subst (λ (o : Option (String Global)). Leads q step.step (told_by o r)) is leads in
    subst (λ whole. Writes p steps whole r) (sym adds)
    (so_far said r
    (subst (λ (ls : List Numbered). Writes q ls said r)
    (left steps i none more) (Stopped r, stopped, (refl, refl))))

-- each step takes few events
pub few_more : (old now new i : ℕ) → now ≤ old + i * 2 ^ 18 → new ≤ now + 2 ^ 18
    → new ≤ old + (i + 1) * 2 ^ 18
few_more old now new i few one = omega arith

pub few_left : (old now i n : ℕ) → now ≤ old + i * 2 ^ 18 → i < n → old + n * 2 ^ 18 < 2 ^ 64
    → now + 2 ^ 18 < 2 ^ 64
few_left old now i n few more all = omega arith
