-- The mark stack: cells that wait for a look, in a room that is fixed.
-- Source: this project's.
use Rattle.std.specs.Prelude.{ℕ, ◌<◌, ◌==◌, Bool, true, false, List, [], ◌∷◌, length}
use Rattle.std.specs.Prelude.{Option, Some, None, nat_lt, slice_index, zero, suc, if◌then◌else◌}

pub record Stack : Type 0 where
  pub room : ℕ
  -- the one on top first
  pub cells : List ℕ

abbrev pub emptied : Stack → Stack
emptied s = record s { cells = [] }

abbrev pub has_room : Stack → Bool
has_room s = nat_lt (length s.cells) s.room

-- a cell goes on top where there is room, and is left out otherwise
abbrev pub pushed : ℕ → Stack → Stack
pushed c s = if has_room s then record s { cells = c ∷ s.cells } else s

abbrev pub is_empty : List ℕ → Bool
is_empty [] = true
is_empty (x ∷ xs) = false

abbrev pub top_of : List ℕ → Option ℕ
top_of [] = None
top_of (x ∷ xs) = Some x

-- without the cell on top, as often as it stands there
abbrev pub without : ℕ → List ℕ → List ℕ
without c [] = []
without c (x ∷ xs) = if x == c then without c xs else x ∷ xs

-- the one on top, or another number where there is none
abbrev pub top_or : ℕ → List ℕ → ℕ
top_or c [] = c
top_or c (x ∷ xs) = x

-- The cell to be looked at next, where the pass has come to the given one: the topmost one that is
-- another; and the given one where there is none.
abbrev pub next_of : ℕ → List ℕ → ℕ
next_of at cells = top_or at (without at cells)

-- from the topmost place of the cell down
abbrev pub down_to : ℕ → List ℕ → List ℕ
down_to c [] = []
down_to c (x ∷ xs) = if x == c then x ∷ xs else down_to c xs

-- a look at a cell takes it from the stack, with all that lies above it
abbrev pub looked_at : ℕ → Stack → Stack
looked_at c s = record s { cells = without c (down_to c s.cells) }

-- each cell on it is one of the heap's
abbrev pub AllBelow : ℕ → List ℕ → Type 0
AllBelow n [] = Unit {0}
AllBelow n (x ∷ xs) = (x < n) × AllBelow n xs

-- the first so many of the items, the last one first
abbrev pub top_first : List ℕ → ℕ → List ℕ
top_first items zero = []
top_first items (suc height) = slice_index items height ∷ top_first items height
