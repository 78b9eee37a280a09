-- What a claim leaves: one cell more after all others, or all as it was.
-- Source: this project's.
use Rattle.std.specs.Prelude.{ℕ, ◌≡◌, ◌++◌, ◌∷◌, ◌⊎◌, []}
use Rattle.mutator_seat.specs.Bound.{Bound, held_cells}
use Rattle.mutator_seat.specs.Claims.{HasMode, Seeking}
use Rattle.mutator_seat.specs.Stretches.{Calm}
use Rattle.sorted_rule.specs.declared.sorting.Sorting.{Sorting}
use Rattle.heap_c.specs.declared.codes.Code.{Code}
use Rattle.heap_c.specs.declared.codes.Code.TheVariants as code

-- the same cells at the same places, and one after them
abbrev pub HoldsOneMore : Bound Sorting → Bound Sorting → Type 0
HoldsOneMore old new = (cell : ℕ) × (held_cells new ≡ held_cells old ++ cell ∷ [])

-- it may try on, and holds and knows what it did
pub record FindsNone (old new : Bound Sorting) : Type 0 where
  pub mode : HasMode new
  pub sought : Calm Seeking old new

-- what is answered where no cell was found
abbrev pub SaysNone : Code → Type 0
SaysNone c = (c ≡ code.Wait) ⊎ (c ≡ code.Full)
