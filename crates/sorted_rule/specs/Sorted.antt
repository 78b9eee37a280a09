-- The rule of a heap whose fields are sorted, on its boxes and on the passes of its mutators: each
-- field of each box has what its number allows.
--
-- It speaks of one box at a time, so it stands on every smaller map. How many fields name boxes is
-- the setting of the heap. It reaches the rule by the passes: each has it from the opening on, and
-- so a mutator knows by its own pass what the rule says of every box.
-- Source: this project's.
use Rattle.std.specs.Prelude.{ℕ, ◌≡◌, ◌<◌, List, Some}
use mathlib.Core.Option.{some}
use lib.ListN.{get_elem?}
use Rattle.heap_rule.specs.Boxes.{Map, Payload, Smaller}
use Rattle.sorted_rule.specs.Sorts.{IsOfSort, sort_of}
use Rattle.sorted_rule.specs.declared.sorting.Sorting.{Sorting}

-- each field of the box at this cell has what its number allows
abbrev pub IsSorted : (boxes cell : ℕ) → Payload → Type 0
IsSorted boxes cell box = (f : ℕ) → f < 5 → IsOfSort (sort_of boxes cell f) (box f)

-- and that is so of each box of the map
abbrev pub AreSorted : ℕ → Map → Type 0
AreSorted boxes map = (cell : ℕ) (box : Payload) → map cell ≡ Some box → IsSorted boxes cell box

pub record HoldsSorted (map : Map) (passes : List Sorting) : Type 0 where
  pub boxes : ℕ
  -- all passes have this number
  pub agreed : (number : ℕ) (pass : Sorting) → get_elem? passes number ≡ some pass
      → pass.boxes ≡ boxes
  pub sorted : AreSorted boxes map

-- the pass of each mutator: the setting of the heap
abbrev pub opening_pass : ℕ → ℕ → Sorting
opening_pass number setting = record { boxes = setting }

-- the law of the rule
pub sorted_shrinks : (old new : Map) (passes : List Sorting) → Smaller old new
    → HoldsSorted old passes → HoldsSorted new passes
sorted_shrinks old new passes smaller kept = record {
  boxes = kept.boxes;
  agreed = kept.agreed;
  sorted = λ cell box at. kept.sorted cell box (smaller.within cell box at);
}
