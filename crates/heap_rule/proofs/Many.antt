-- As much is known as there are places.
use Rattle.std.proofs.Common.{◌≡◌, ℕ, suc, Bool, List, [], ◌∷◌, length}
use Rattle.std.proofs.Common.{refl, ◌∙◌, ap, subst, arith}
use Rattle.std.proofs.lemmas.List.{length-map}
use Rattle.core_machine.specs.declared.places.Held.{Held}
use Rattle.core_machine.specs.Own.{Own}
use Rattle.core_machine.specs.State.{State}
use Rattle.heap_rule.specs.Facts.{AllKnown, IsKnown}
use Rattle.heap_rule.specs.Lore.{Lore, at_cell, cells_in, cells_of}
use Rattle.heap_rule.specs.Steps.{Mine}
use Rattle.heap_rule.specs.declared.known.Known.{Known}
use Rattle.heap_rule.specs.declared.view.View.{View}

pub as_many : (K : ℕ → Known → Type 0) (cells : List ℕ) (known : List Known)
    → AllKnown K cells known → length known ≡ length cells
as_many K [] [] all = refl
as_many K [] (k ∷ known) all = absurd all
as_many K (c ∷ cells) [] all = absurd all
as_many K (c ∷ cells) (k ∷ known) all = ap suc (as_many K cells known all.1)

pub at_cell_many : (change : Known → Known) (c : ℕ) (cells : List ℕ) (known : List Known)
    → length known ≡ length cells → length (at_cell change c cells known) ≡ length known
at_cell_many change c [] known same = refl
at_cell_many change c (d ∷ cells) [] same = refl
at_cell_many change c (d ∷ cells) (k ∷ known) same =
    ap suc (at_cell_many change c cells known (let e : length known ≡ length cells =
    omega (arith, same) in e))

pub known_many : {P : Type 0} (fixed : ℕ → Bool) (v : View P) (s : State) (l : Lore)
    → Mine fixed v s l
    → length v.known ≡ length v.own.held
known_many fixed v s l mine =
    as_many (IsKnown fixed s l v.number) (cells_in v.own.held) v.known
    (subst (λ (o : Own). AllKnown (IsKnown fixed s l v.number) (cells_in o.held) v.known)
    mine.own
    (subst (λ (ws : List Known). AllKnown (IsKnown fixed s l v.number) (cells_of s v.number) ws)
    mine.known (mine.shown.facts.known_all v.number)))
    ∙ length-map v.own.held (λ (p : Held). p.cell)
