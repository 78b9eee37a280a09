-- Which cells are reachable: those to which a chain of fields leads from the anchor, or from a cell
-- that a mutator which is in holds. As a family, and computed.
-- Source: Doligez and Leroy, POPL 1993 (roots and reachability); this project's (held lists).
use Rattle.std.specs.Prelude.{ℕ, ◌≡◌, ◌==◌, Bool, true, false, List, [], ◌∷◌, length, if◌then◌else◌}
use Rattle.std.specs.List.{list_any}
use Rattle.cell_words.specs.declared.fields.Field.{Field}
use Rattle.cell_words.specs.declared.fields.Field.TheVariants as field
use Rattle.cell_words.specs.declared.presences.Presence.{Presence}
use Rattle.core_machine.specs.State.{State, row_in, field_in, presence_in, own_in}
use Rattle.core_machine.specs.Own.{Own}
use Rattle.core_machine.specs.Places.{holds}
use Rattle.dlg_core.specs.Paths.{path}

-- It takes the parts of the state that it reads, so a change of a colour, of the control or of the
-- collector's part leaves it as it is.
pub data Reach (rows : List (List Field)) (presences : List Presence) (owns : List Own) : ℕ
    → Type 0 where
  -- the anchor is reachable
  anchor : {c : ℕ} → c ≡ 0 → Reach rows presences owns c
  -- so is what a mutator holds that is in
  held : {c : ℕ} (i : ℕ) → (presence_in presences i).inside ≡ true
      → holds (own_in owns i).held c ≡ true
      → Reach rows presences owns c
  -- and what a field of a reachable cell names
  named : {c d : ℕ} (f : ℕ) → Reach rows presences owns c → field_in rows c f ≡ field.Cell d
      → Reach rows presences owns d

abbrev pub Reachable : State → ℕ → Type 0
Reachable s c = Reach s.rows s.presences s.owns c

-- Computed.

-- the field is the cell
abbrev pub names_cell : ℕ → Field → Bool
names_cell c field.Null = false
names_cell c (field.Num n) = false
names_cell c (field.Cell d) = d == c

-- a field of x names y
abbrev pub edge : List (List Field) → ℕ → ℕ → Bool
edge rows x y = list_any (names_cell y) (row_in rows x)

-- the test holds of a cell that a mutator which is in holds
abbrev pub some_root : (ℕ → Bool) → List Presence → List Own → Bool
some_root test [] owns = false
some_root test (p ∷ ps) [] = false
some_root test (p ∷ ps) (own ∷ owns) =
    (if (if p.inside then list_any (λ place. test place.cell) own.held else false) then true
    else some_root test ps owns)

-- whether a path of fields leads from x to y
abbrev pub leads : List (List Field) → ℕ → ℕ → Bool
leads rows x y = path (edge rows) (length rows) x y

-- whether a cell is reachable
unfoldable pub reach_in : List (List Field) → List Presence → List Own → ℕ → Bool
reach_in rows presences owns c =
    (if leads rows 0 c then true else some_root (λ root. leads rows root c) presences owns)

abbrev pub reach : State → ℕ → Bool
reach s c = reach_in s.rows s.presences s.owns c
