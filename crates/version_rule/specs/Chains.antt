-- The versions that stay: from a version on, each linked to the one before it, down to the one
-- whose link is cut.
-- Source: this project's.
use Rattle.std.specs.Prelude.{ℕ, ◌≡◌, ◌+◌, List, [], ◌∷◌, length, Some}
use Rattle.cell_words.specs.Term.{null, num}
use Rattle.heap_rule.specs.Boxes.{Map, Payload}
use Rattle.heap_rule.specs.Lore.{Named, Plain}

-- the cells of the versions from one with this number on, the newest first
pub data Chain (map : Map) : (cells : List ℕ) (number : ℕ) → Type 0 where
  last : {cell number : ℕ} (box : Payload) → map cell ≡ Some box → box 0 ≡ Plain (num number)
      → box 2 ≡ Plain null → Chain map (cell ∷ []) number
  more : {cell older number : ℕ} {cells : List ℕ} (box : Payload) → map cell ≡ Some box
      → box 0 ≡ Plain (num (number + 1)) → box 2 ≡ Named older → Chain map (older ∷ cells) number
      → Chain map (cell ∷ older ∷ cells) (number + 1)

-- from this cell on, so many versions stay
pub record Stays (map : Map) (cell number count : ℕ) : Type 0 where
  -- after the first
  pub cells : List ℕ
  pub chain : Chain map (cell ∷ cells) number
  pub many : length cells + 1 ≡ count

-- the cell is in the list
pub data Among (cell : ℕ) : List ℕ → Type 0 where
  first : {cells : List ℕ} → Among cell (cell ∷ cells)
  later : {other : ℕ} {cells : List ℕ} → Among cell cells → Among cell (other ∷ cells)
