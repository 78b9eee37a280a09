-- The words of a heap that is closed.
-- Source: this project's.
use Rattle.std.specs.Prelude.{ℕ, ◌≡◌, List}
use Rattle.core_machine.specs.InRange.{HasWords, InRange}
use Rattle.core_machine.specs.State.{State}
use Rattle.core_machine.specs.Table.{words_of}

-- as contracts see them
pub record ImageView : Type 0 where
  pub words : List ℕ
  pub cells : ℕ
  pub mutators : ℕ

-- the words show this state
pub record Shows (i : ImageView) (s : State) : Type 0 where
  pub in_range : InRange s
  pub has_words : HasWords s
  pub words_are : i.words ≡ words_of s
  pub cells_are : s.cells ≡ i.cells
  pub mutators_are : s.mutators ≡ i.mutators

-- they show some state
abbrev pub IsImage : ImageView → Type 0
IsImage i = (s : State) × Shows i s
