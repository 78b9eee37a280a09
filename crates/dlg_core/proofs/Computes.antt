-- The computed reachability is the family: what a chain reaches is computed, and what is computed
-- is reached by a chain.
use Rattle.std.proofs.Common.{◌≡◌, ℕ, zero, suc, Bool, true, false, cond, ◌<◌, ◌==◌, inl, inr, List}
use Rattle.std.proofs.Common.{[], ◌∷◌, length, get_or, refl, sym, subst, arith, eq-eqb}
use Rattle.std.specs.List.{list_any}
use Rattle.std.proofs.lemmas.Bool.{eqb-true, or_cases}
use Rattle.cell_words.specs.declared.fields.Field.{Field}
use Rattle.cell_words.specs.declared.fields.Field.TheVariants as field
use Rattle.cell_words.specs.declared.presences.Presence.{Presence}
use Rattle.core_machine.specs.declared.places.Held.{Held}
use Rattle.core_machine.specs.State.{row_in, field_in, presence_in, own_in}
use Rattle.core_machine.specs.Own.{Own}
use Rattle.core_machine.specs.Places.{holds}
use Rattle.dlg_core.specs.Reachable.{Reach, anchor, held, named, names_cell, edge, some_root, leads}
use Rattle.dlg_core.specs.Reachable.{reach_in}
use Rattle.dlg_core.proofs.Joins.{path_self, path_edge, joins, along}
use Rattle.dlg_core.proofs.Truths.{or_here, or_later, or_left, or_right, or_split, both, both_split}

-- Edges.

-- a cell that stands in a row is found there
found_in_row : (c : ℕ) (row : List Field) (f : ℕ) → get_or row f field.Null ≡ field.Cell c
    → list_any (names_cell c) row ≡ true
found_in_row c [] f h = absurd cc
found_in_row c (x ∷ xs) zero h =
    or_here (names_cell c x) _ (subst (λ y. names_cell c y ≡ true) (sym h) (eq-eqb c c refl))
found_in_row c (x ∷ xs) (suc f) h = or_later (names_cell c x) _ (found_in_row c xs f h)

-- a field that names a cell is that cell
names_it : (c : ℕ) (x : Field) → names_cell c x ≡ true → x ≡ field.Cell c
names_it c (field.Cell d) h = let same : d
    ≡ c = eqb-true d c h in subst (λ e. field.Cell d ≡ field.Cell e) same refl
names_it c _ h = absurd cc

-- and what is found there stands at some place of it
stands_in_row : (c : ℕ) (row : List Field) → list_any (names_cell c) row ≡ true
    → (f : ℕ) × (get_or row f field.Null ≡ field.Cell c)
stands_in_row c [] h = absurd cc
stands_in_row c (x ∷ xs) h = elim (or_cases (names_cell c x) _ h) [
  | inl here ↦ (zero, names_it c x here)
  | inr there ↦ let r = stands_in_row c xs there in (suc r.0, r.1)
]

-- a row that there is not has no edge
row_below : (rows : List (List Field)) (x y : ℕ) → edge rows x y ≡ true → x < length rows
row_below [] x y h = absurd cc
row_below (row ∷ rows) zero y h = omega arith
row_below (row ∷ rows) (suc x) y h = let lt = row_below rows x y h in omega arith

-- Roots.

-- what holds of a held cell holds of some place of the list
holds_of_held : (test : ℕ → Bool) (c : ℕ) (places : List Held) → holds places c ≡ true
    → test c ≡ true
    → list_any (λ place. test place.cell) places ≡ true
holds_of_held test c [] h t = absurd cc
holds_of_held test c (p ∷ ps) h t = elim (or_cases (p.cell == c) _ h) [
  | inl here ↦ let same : p.cell ≡ c = eqb-true p.cell c here in
      or_here (test p.cell) _ (subst (λ e. test e ≡ true) (sym same) t)
  | inr there ↦ or_later (test p.cell) _ (holds_of_held test c ps there t)
]

-- and a place of which it holds has a held cell
held_where : (test : ℕ → Bool) (places : List Held)
    → list_any (λ place. test place.cell) places ≡ true
    → (c : ℕ) × (holds places c ≡ true) × (test c ≡ true)
held_where test [] h = absurd cc
held_where test (p ∷ ps) h = elim (or_cases (test p.cell) _ h) [
  | inl here ↦ (p.cell, or_here (p.cell == p.cell) _ (eq-eqb p.cell p.cell refl), here)
  | inr there ↦ let r = held_where test ps there in
      (r.0, or_later (p.cell == r.0) _ r.1, r.2)
]

-- what holds of a cell that mutator i holds, which is in, holds of some root
root_at : (test : ℕ → Bool) (ps : List Presence) (os : List Own) (i c : ℕ)
    → (presence_in ps i).inside ≡ true → holds (own_in os i).held c ≡ true → test c ≡ true
    → some_root test ps os ≡ true
root_at test (p ∷ ps) (o ∷ os) zero c inside h t =
    or_left _ _ (both p.inside _ inside (holds_of_held test c o.held h t))
root_at test (p ∷ ps) (o ∷ os) (suc i) c inside h t =
    or_right _ (some_root test ps os) (root_at test ps os i c inside h t)
root_at test _ _ _ c inside h t = absurd cc

-- and some root of which it holds is a cell that a mutator which is in holds
root_where : (test : ℕ → Bool) (ps : List Presence) (os : List Own) → some_root test ps os ≡ true
    → (i : ℕ) × (c : ℕ) × ((presence_in ps i).inside ≡ true) × (holds (own_in os i).held c ≡ true)
    × (test c ≡ true)
root_where test (p ∷ ps) (o ∷ os) h =
    elim (or_split (cond p.inside (list_any (λ place. test place.cell) o.held) false)
    (some_root test ps os) h) [
      | inl here ↦
          let r = both_split p.inside _ here in
          let w = held_where test o.held r.1 in
          (zero, w.0, r.0, w.1, w.2)
      | inr there ↦ let r = root_where test ps os there in (suc r.0, r.1, r.2, r.3, r.4)
    ]
root_where test _ _ h = absurd cc

-- The equivalence.

-- what is computed goes on along a field
goes_on : (rows : List (List Field)) (c d f root : ℕ) → field_in rows c f ≡ field.Cell d
    → leads rows root c ≡ true → leads rows root d ≡ true
goes_on rows c d f root e h =
    let there : edge rows c d ≡ true = found_in_row d (row_in rows c) f e in
    joins (edge rows) (length rows) root c d (row_below rows c d there) h
    (path_edge (edge rows) (length rows) c d there)

-- what a chain reaches is computed
pub reach-complete : (rows : List (List Field)) (ps : List Presence) (os : List Own) (c : ℕ)
    → Reach rows ps os c → reach_in rows ps os c ≡ true
unfolding reach_in
reach-complete rows ps os c (anchor e) =
    subst (λ d. reach_in rows ps os d ≡ true) (sym e)
    (or_left (leads rows 0 0) _ (path_self (edge rows) (length rows) 0))
reach-complete rows ps os c (held i inside h) =
    or_right (leads rows 0 c) _
    (root_at (λ root. leads rows root c) ps os i c inside h (path_self (edge rows) (length rows) c))
reach-complete rows ps os d (named {c} f r e) =
    elim (or_split (leads rows 0 c) _ (reach-complete rows ps os c r)) [
      | inl a ↦ or_left (leads rows 0 d) _ (goes_on rows c d f 0 e a)
      | inr a ↦
          let w = root_where (λ root. leads rows root c) ps os a in
          or_right (leads rows 0 d) _
          (root_at (λ root. leads rows root d) ps os w.0 w.1 w.2 w.3 (goes_on rows c d f w.1 e w.4))
    ]

-- what is computed is reached by a chain
pub reach-sound : (rows : List (List Field)) (ps : List Presence) (os : List Own) (c : ℕ)
    → reach_in rows ps os c ≡ true → Reach rows ps os c
unfolding reach_in
reach-sound rows ps os c h =
    let step : (x y : ℕ) → Reach rows ps os x → edge rows x y ≡ true → Reach rows ps os y
    = (λ x y r e. let w = stands_in_row y (row_in rows x) e in named w.0 r w.1) in
    elim (or_split (leads rows 0 c) _ h) [
      | inl a ↦ along (Reach rows ps os) (edge rows) step (length rows) 0 c a (anchor refl)
      | inr a ↦
          let w = root_where (λ root. leads rows root c) ps os a in
          along (Reach rows ps os) (edge rows) step (length rows) w.1 c w.4 (held w.0 w.2 w.3)
    ]

-- What holds of the anchor and of all held cells, and passes along fields, holds of all that is
-- reachable.
pub into : (rows : List (List Field)) (ps : List Presence) (os : List Own) (P : ℕ → Type 0) → P 0
    → ((i c : ℕ) → (presence_in ps i).inside ≡ true → holds (own_in os i).held c ≡ true → P c)
    → ((c d f : ℕ) → P c → field_in rows c f ≡ field.Cell d → P d)
    → (c : ℕ) → Reach rows ps os c → P c
into rows ps os P root roots along c (anchor e) = subst P (sym e) root
into rows ps os P root roots along c (held i inside h) = roots i c inside h
into rows ps os P root roots along d (named {c} f r e) = along c d f
    (into rows ps os P root roots along c r) e
