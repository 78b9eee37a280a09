-- Boxes with numbers, each with one of its own in its first entry, and the anchor that names one of
-- them: what the rules of clients whose boxes follow one another say of a map.
-- Source: this project's.
use Rattle.std.specs.Prelude.{ℕ, ◌≡◌, ◌<◌, ◌≤◌, Some}
use Rattle.cell_words.specs.Term.{null, num}
use Rattle.heap_rule.specs.Boxes.{Map, Payload}
use Rattle.heap_rule.specs.Lore.{Named, Plain}

-- the map has a box with this number
pub record HasNumber (map : Map) (cell number : ℕ) : Type 0 where
  pub box : Payload
  pub there : map cell ≡ Some box
  pub number_is : box 0 ≡ Plain (num number)

-- the anchor names the box with this number, and nothing else
pub record NamesNumber (map : Map) (number : ℕ) : Type 0 where
  pub anchor : Payload
  pub there : map 0 ≡ Some anchor
  pub cell : ℕ
  pub names : anchor 0 ≡ Named cell
  pub numbered : HasNumber map cell number
  pub others : (f : ℕ) → 1 ≤ f → f < 5 → anchor f ≡ Plain null

-- no two boxes have one number
abbrev pub AreApart : Map → Type 0
AreApart map = (one other number : ℕ) → HasNumber map one number → HasNumber map other number
    → one ≡ other
