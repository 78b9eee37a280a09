-- Held lists: which cells they hold, and what holds of each place.
use Rattle.std.proofs.Common.{◌≡◌, ℕ, true, false, ◌||◌, ◌==◌, ◌<◌, ◌⊎◌, inl, inr, List, [], ◌∷◌}
use Rattle.std.proofs.Common.{◌++◌, map, length, eq-eqb, refl, ap, arith, zero, suc, take, drop}
use Rattle.std.proofs.Common.{if◌then◌else◌, ◌∙◌}
use Rattle.std.specs.List.{All}
use Rattle.std.proofs.lemmas.Bool.{or_cases, eqb-true}
use Rattle.std.proofs.lemmas.List.Elements.{All-nil, All-cons, All-get_or, All-weaker, All-take}
use Rattle.std.proofs.lemmas.List.Elements.{All-drop, All-append}
use Rattle.cell_words.specs.declared.colours.Colour.{Colour}
use Rattle.core_machine.specs.declared.places.Held.{Held}
use Rattle.core_machine.specs.Places.{holds, unmark, found_at, cell_at, no_place, kept, mark_of}
use Rattle.dlg_core.specs.Consistent.{MarkStands}
use Rattle.dlg_core.proofs.Truths.{or_here, or_later}
use Rattle.dlg_core.proofs.Each.{all_held}

-- unmarking changes no cell
pub holds_unmark : (held : List Held) (c : ℕ) → holds (map unmark held) c ≡ holds held c
holds_unmark [] c = refl
holds_unmark (p ∷ ps) c = ap (λ b. (p.cell == c) || b) (holds_unmark ps c)

-- and no place is marked then
pub none_marked : (colours : List Colour) (held : List Held)
    → All (MarkStands colours) (map unmark held)
none_marked colours [] = All-nil (MarkStands colours)
none_marked colours (p ∷ ps) = All-cons (MarkStands colours) (unmark p) (map unmark ps)
    (λ h. absurd cc) (none_marked colours ps)

-- who holds one cell more holds that one or held the other before
pub holds_more : (held : List Held) (w c : ℕ) → holds (held ++ found_at w ∷ []) c ≡ true
    → (holds held c ≡ true) ⊎ (w ≡ c)
holds_more [] w c h = elim (or_cases (w == c) false h) [
  | inl here ↦ inr (eqb-true w c here)
  | inr there ↦ absurd cc
]
holds_more (p ∷ ps) w c h = elim (or_cases (p.cell == c) _ h) [
  | inl here ↦ inl (or_here (p.cell == c) _ here)
  | inr there ↦ elim (holds_more ps w c there) [
    | inl held ↦ inl (or_later (p.cell == c) _ held)
    | inr new ↦ inr new
  ]
]

-- a place of a held list has a cell for which holds what holds of all
pub at_place : (P : ℕ → Type 0) (held : List Held) (place : ℕ) → place < length held
    → All (λ p. P p.cell) held → P (cell_at held place)
at_place P held place lt all = All-get_or (λ p. P p.cell) held place no_place lt all

-- a place that there is holds its cell
pub holds_place : (held : List Held) (place : ℕ) → place < length held
    → holds held (cell_at held place) ≡ true
holds_place [] place lt = absurd (omega arith)
holds_place (p ∷ ps) zero lt = or_here (p.cell == p.cell) _ (eq-eqb p.cell p.cell refl)
holds_place (p ∷ ps) (suc place) lt = or_later (p.cell == cell_at ps place) _
    (holds_place ps place (omega arith))

-- Places stand where they stood.

-- one cell more leaves each place
pub cell_at_more : (held : List Held) (w place : ℕ) → place < length held
    → cell_at (held ++ found_at w ∷ []) place ≡ cell_at held place
cell_at_more [] w place lt = absurd (omega arith)
cell_at_more (p ∷ ps) w zero lt = refl
cell_at_more (p ∷ ps) w (suc place) lt = cell_at_more ps w place (omega arith)

pub there_more : (held : List Held) (w place : ℕ) → place < length held
    → place < length (held ++ found_at w ∷ [])
there_more [] w place lt = absurd (omega arith)
there_more (p ∷ ps) w zero lt = omega arith
there_more (p ∷ ps) w (suc place) lt =
    let more = there_more ps w place (omega arith) in omega arith

-- and what was held
pub holds_still : (held : List Held) (w c : ℕ) → holds held c ≡ true
    → holds (held ++ found_at w ∷ []) c ≡ true
holds_still [] w c h = absurd cc
holds_still (p ∷ ps) w c h = elim (or_cases (p.cell == c) _ h) [
  | inl here ↦ or_here (p.cell == c) _ here
  | inr there ↦ or_later (p.cell == c) _ (holds_still ps w c there)
]

-- the new one is held
pub holds_new : (held : List Held) (w : ℕ) → holds (held ++ found_at w ∷ []) w ≡ true
holds_new [] w = or_here (w == w) false (eq-eqb w w refl)
holds_new (p ∷ ps) w = or_later (p.cell == w) _ (holds_new ps w)

-- what holds of each place holds of each that is kept
pub all_kept : (P : Held → Type 0) (held : List Held) (count from copies : ℕ) → All P held
    → All P (kept held count from copies)
all_kept P held count from copies all =
    All-append P (take count held) (take copies (drop from held)) (All-take P count held all)
    (All-take P copies (drop from held) (All-drop P from held all))

-- each held cell is held
pub all_itself : (held : List Held) → All (λ p. holds held p.cell ≡ true) held
all_itself [] = All-nil (λ p. holds [] p.cell ≡ true)
all_itself (p ∷ ps) = All-cons (λ q. holds (p ∷ ps) q.cell
    ≡ true) p ps (or_here (p.cell == p.cell) _ (eq-eqb p.cell p.cell refl))
    (All-weaker (λ q. holds ps q.cell ≡ true) (λ q. holds (p ∷ ps) q.cell
    ≡ true) (λ q h. or_later (p.cell == q.cell) _ h) ps (all_itself ps))

-- what is held after it was held before
pub holds_kept : (held : List Held) (count from copies c : ℕ)
    → holds (kept held count from copies) c ≡ true → holds held c ≡ true
holds_kept held count from copies c h =
    all_held (λ d. holds held d ≡ true) (kept held count from copies) c
    (all_kept (λ p. holds held p.cell ≡ true) held count from copies (all_itself held)) h

-- marking changes no cell
pub cell_of_mark : (c : ℕ) (p : Held) → (mark_of c p).cell ≡ p.cell
cell_of_mark c p = elim (p.cell == c) as (λ b. (if b then record p { marked = true } else p).cell
    ≡ p.cell) [
      | true ↦ refl
      | false ↦ refl
    ]

pub holds_marking : (held : List Held) (c d : ℕ) → holds (map (mark_of c) held) d ≡ holds held d
holds_marking [] c d = refl
holds_marking (p ∷ ps) c d =
    ap (λ x. (x == d) || holds (map (mark_of c) ps) d) (cell_of_mark c p)
    ∙ ap (λ b. (p.cell == d) || b) (holds_marking ps c d)

pub cell_at_marking : (held : List Held) (c place : ℕ)
    → cell_at (map (mark_of c) held) place ≡ cell_at held place
cell_at_marking [] c place = refl
cell_at_marking (p ∷ ps) c zero = cell_of_mark c p
cell_at_marking (p ∷ ps) c (suc place) = cell_at_marking ps c place

pub there_marking : (held : List Held) (c place : ℕ) → place < length held
    → place < length (map (mark_of c) held)
there_marking [] c place lt = absurd (omega arith)
there_marking (p ∷ ps) c zero lt = omega arith
there_marking (p ∷ ps) c (suc place) lt =
    let more = there_marking ps c place (omega arith) in omega arith
