-- What takes from the queue of hints give, one after the other, and what the pass knows after them.
-- Source: this project's.
use Rattle.std.specs.Prelude.{ℕ, ◌≡◌, ◌<◌, List, [], ◌∷◌, length, Option, Some, None, IfSome}
use Rattle.free_cells.specs.declared.counts.Counts.{Counts}
use Rattle.free_cells.specs.Counts.{IsFront, none_taken, taken}

-- A take gives this to a pass: a number in range, and the one at the front where the pass knows
-- what the queue holds; or none, unless the pass knows that a number is there.
abbrev pub Gives : ℕ → Counts → Option ℕ → Type 0
Gives cells counts (Some cell) = (cell < cells) × IsFront cell counts.content
Gives cells counts None = IfSome counts.content (λ known. length known ≡ 0)

-- the pass after it
abbrev pub after_take : Counts → Option ℕ → Counts
after_take counts (Some cell) = taken counts
after_take counts None = none_taken counts

-- takes give these, one after the other and with no other between them
abbrev pub GiveAll : ℕ → Counts → List (Option ℕ) → Type 0
GiveAll cells counts [] = Unit {0}
GiveAll cells counts (hint ∷ hints) =
    Gives cells counts hint × GiveAll cells (after_take counts hint) hints

-- the pass after all of them
abbrev pub after_takes : Counts → List (Option ℕ) → Counts
after_takes counts [] = counts
after_takes counts (hint ∷ hints) = after_takes (after_take counts hint) hints
