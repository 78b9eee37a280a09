-- The items after one: each box names the next, down to the last one.
-- Source: this project's.
use Rattle.std.specs.Prelude.{ℕ, ◌≡◌, ◌+◌, List, [], ◌∷◌, length, Some}
use Rattle.cell_words.specs.Term.{null}
use Rattle.heap_rule.specs.Boxes.{Map, Payload}
use Rattle.heap_rule.specs.Lore.{Named, Plain}
use Rattle.mail_rule.specs.Items.{Letter}
use Rattle.mail_rule.specs.Mail.{HasItem}

-- the boxes after the one at this cell, which has the item at this position, in order
pub data Follow (letters : List Letter) (map : Map) : (cell position : ℕ) (cells : List ℕ)
    → Type 0 where
  last : {cell position : ℕ} (box : Payload) → map cell ≡ Some box
      → HasItem letters position box → box 3 ≡ Plain null
      → Follow letters map cell position []
  more : {cell position next : ℕ} {cells : List ℕ} (box : Payload) → map cell ≡ Some box
      → HasItem letters position box → box 3 ≡ Named next
      → Follow letters map next (position + 1) cells
      → Follow letters map cell position (next ∷ cells)

-- these boxes come after it, as many as were sent after it
pub record Behind (letters : List Letter) (map : Map) (cell position : ℕ) : Type 0 where
  pub cells : List ℕ
  pub many : position + length cells ≡ length letters
  pub follow : Follow letters map cell position cells
