-- Lists of places, of the cells there, and of what is known of them.
use Rattle.std.proofs.Common.{◌≡◌, ◌≢◌, ◌<◌, ℕ, zero, suc, Bool, true, false, ◌||◌, ◌==◌, List, []}
use Rattle.std.proofs.Common.{◌∷◌, ◌++◌}
use Rattle.std.proofs.Common.{map, length, get_or, take, drop, if◌then◌else◌, refl, sym, ◌∙◌, ap}
use Rattle.std.proofs.Common.{subst, arith}
use Rattle.std.proofs.Common.{eq-eqb, inl, inr}
use Rattle.std.proofs.lemmas.Bool.{cases_eq, ne_eqb}
use Rattle.std.proofs.lemmas.List.Folds.{list_any_at}
use Rattle.core_machine.specs.declared.places.Held.{Held}
use Rattle.core_machine.specs.Places.{holds}
use Rattle.core_machine.specs.State.{State, presence_of, held_of}
use Rattle.dlg_core.proofs.Truths.{or_here, or_later}
use Rattle.dlg_core.specs.Consistent.{IsConsistent}
use Rattle.dlg_core.specs.Reachable.{Reachable, held}
use Rattle.heap_rule.specs.declared.known.Known.{Known}
use Rattle.heap_rule.specs.Facts.{AllKnown}
use Rattle.heap_rule.specs.Lore.{cells_of, has, at_cell, known_at}

-- a held list holds a cell exactly where the list of its cells has it
pub has_holds : (places : List Held) (x : ℕ) → has (map (λ p. p.cell) places) x ≡ holds places x
has_holds [] x = refl
has_holds (p ∷ ps) x = ap (λ b. (p.cell == x) || b) (has_holds ps x)

pub has_at : (cells : List ℕ) (place : ℕ) → place < length cells
    → has cells (get_or cells place 0) ≡ true
has_at cells place lt =
    let c = get_or cells place 0 in
    list_any_at (λ cell. cell == c) cells place 0 lt (eq-eqb c c refl)

-- what a mutator holds is reachable, since who is out holds nothing
held_in : (s : State) (i x : ℕ) (inside : Bool) → (presence_of s i).inside ≡ inside → IsConsistent s
    → has (cells_of s i) x ≡ true → Reachable s x
held_in s i x true is k h = held i is (sym (has_holds (held_of s i) x) ∙ h)
held_in s i x false is k h =
    let none : has [] x ≡ true =
    subst (λ (places : List Held). has (map (λ p. p.cell) places) x
    ≡ true) (k.mutators.out i is).0 h in
    absurd cc

pub reached_held : (s : State) (i x : ℕ) → IsConsistent s → has (cells_of s i) x ≡ true
    → Reachable s x
reached_held s i x k h = held_in s i x (presence_of s i).inside refl k h

-- What is so of all places.

-- may be said again of each cell that the list has
pub all_known : (K L : ℕ → Known → Type 0) (cells : List ℕ) (known : List Known)
    → ((c : ℕ) (k : Known) → has cells c ≡ true → K c k → L c k) → AllKnown K cells known
    → AllKnown L cells known
all_known K L [] [] step all = tt
all_known K L [] (k ∷ known) step all = absurd all
all_known K L (c ∷ cells) [] step all = absurd all
all_known K L (c ∷ cells) (k ∷ known) step all = (
  step c k (or_here (c == c) (has cells c) (eq-eqb c c refl)) all.0,
  all_known K L cells known (λ d j h. step d j (or_later (c == d) (has cells d) h)) all.1,
)

pub all_append : (K : ℕ → Known → Type 0) (cells more : List ℕ) (known further : List Known)
    → AllKnown K cells known → AllKnown K more further
    → AllKnown K (cells ++ more) (known ++ further)
all_append K [] more [] further all rest = rest
all_append K [] more (k ∷ known) further all rest = absurd all
all_append K (c ∷ cells) more [] further all rest = absurd all
all_append K (c ∷ cells) more
    (k ∷ known) further all rest = (all.0, all_append K cells more known further all.1 rest)

pub all_take : (K : ℕ → Known → Type 0) (n : ℕ) (cells : List ℕ) (known : List Known)
    → AllKnown K cells known
    → AllKnown K (take n cells) (take n known)
all_take K zero cells known all = tt
all_take K (suc n) [] [] all = tt
all_take K (suc n) [] (k ∷ known) all = absurd all
all_take K (suc n) (c ∷ cells) [] all = absurd all
all_take K (suc n) (c ∷ cells) (k ∷ known) all = (all.0, all_take K n cells known all.1)

pub all_drop : (K : ℕ → Known → Type 0) (n : ℕ) (cells : List ℕ) (known : List Known)
    → AllKnown K cells known
    → AllKnown K (drop n cells) (drop n known)
all_drop K zero cells known all = all
all_drop K (suc n) [] [] all = tt
all_drop K (suc n) [] (k ∷ known) all = absurd all
all_drop K (suc n) (c ∷ cells) [] all = absurd all
all_drop K (suc n) (c ∷ cells) (k ∷ known) all = all_drop K n cells known all.1

-- is so of the cell at a place
pub all_at : (K : ℕ → Known → Type 0) (cells : List ℕ) (known : List Known) (place : ℕ)
    → place < length cells
    → AllKnown K cells known → K (get_or cells place 0) (known_at known place)
all_at K [] known place lt all = absurd (omega arith)
all_at K (c ∷ cells) [] place lt all = absurd all
all_at K (c ∷ cells) (k ∷ known) zero lt all = all.0
all_at K (c ∷ cells) (k ∷ known) (suc place) lt all = all_at K cells known place (omega arith) all.1

one_changed : (K L : ℕ → Known → Type 0) (change : Known → Known) (x c : ℕ) (k : Known)
    → ((j : Known) → K x j → L x (change j)) → (c ≢ x → K c k → L c k) → K c k
    → L c (if c == x then change k else k)
one_changed K L change x c k here step h = elim (cases_eq c x) [
  | inl is ↦ subst (λ (b : Bool). L c (if b then change k else k)) (sym (eq-eqb c x is))
      (subst (λ (d : ℕ). L d (change k)) (sym is) (here k (subst (λ (d : ℕ). K d k) is h)))
  | inr other ↦ subst (λ (b : Bool). L c (if b then change k else k)) (sym (ne_eqb c x other))
      (step other h)
]

-- and what is known of one cell may change with it
pub all_changed : (K L : ℕ → Known → Type 0) (change : Known
    → Known) (x : ℕ) (cells : List ℕ) (known : List Known)
    → ((k : Known) → K x k → L x (change k))
    → ((c : ℕ) (k : Known) → c ≢ x → has cells c ≡ true → K c k → L c k)
    → AllKnown K cells known → AllKnown L cells (at_cell change x cells known)
all_changed K L change x [] [] here step all = tt
all_changed K L change x [] (k ∷ known) here step all = absurd all
all_changed K L change x (c ∷ cells) [] here step all = absurd all
all_changed K L change x (c ∷ cells) (k ∷ known) here step all = (
  one_changed K L change x c k here
      (λ other h. step c k other (or_here (c == c) (has cells c) (eq-eqb c c refl)) h) all.0,
  all_changed K L change x cells known here
      (λ d j other h. step d j other (or_later (c == d) (has cells d) h)) all.1,
)
