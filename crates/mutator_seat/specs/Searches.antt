-- Which cells a claim tries for what its takes gave, and in which order.
--
-- A trail tells which cells were tried and not what was taken; a pass tells what was taken. So it
-- is said of both: the tries of a call follow the takes of the call, and leave none of them out.
-- Source: this project's.
use Rattle.std.specs.Prelude.{ℕ, ◌≡◌, ◌≤◌, ◌-◌, ◌==◌, nat_lt, List, [], ◌∷◌, ◌++◌}
use Rattle.std.specs.Prelude.{Option, Some, None, if◌then◌else◌}
use Rattle.std.specs.List.{range_with_len}
use Rattle.core_machine.specs.declared.events.Event.{Event}
use Rattle.core_machine.specs.declared.events.Event.TheVariants as event
use Rattle.core_machine.specs.declared.events.Taken.{Taken}
use Rattle.free_cells.specs.declared.hints.Hints.{Hints}
use Rattle.free_cells.specs.Hints.{cells_of, counts_of, queue_of}
use Rattle.mutator_seat.specs.Bound.{Bound}
use Rattle.mutator_seat.specs.Pacing.{Grew}
use Rattle.mutator_seat.specs.Takes.{GiveAll, after_takes}

-- the cell that an event tried to claim
abbrev pub tried_by : Event → List ℕ
tried_by (event.Claim i cell) = cell ∷ []
tried_by _ = []

-- the cells that events tried to claim, in order
abbrev pub cells_tried : List Taken → List ℕ
cells_tried [] = []
cells_tried (t ∷ ts) = tried_by t.event ++ cells_tried ts

-- the first n cells in turn
abbrev pub first_cells : ℕ → List ℕ
first_cells n = range_with_len 0 n

-- the cell of a hint, if the heap has it
abbrev pub hinted : ℕ → ℕ → List ℕ
hinted cells cell = if nat_lt cell cells then cell ∷ [] else []

-- What is tried for one take: the cell that it gave; and where it gave none nothing, but every cell
-- in turn where the patience ends with it.
abbrev pub tries_for : ℕ → ℕ → Option ℕ → List ℕ
tries_for cells patience (Some cell) = hinted cells cell
tries_for cells patience None = if patience == 1 then first_cells cells else []

-- how many more takes without a hint end the patience
abbrev pub patience_after : ℕ → Option ℕ → ℕ
patience_after patience (Some cell) = patience
patience_after patience None = patience - 1

-- By this patience the tries follow what takes gave: each hint is tried before the next one and
-- before any walk that a later take begins. Each walk over the cells is whole, but for the last
-- one, which ends where it got its cell.
pub data Follows : ℕ → ℕ → List (Option ℕ) → List ℕ → Type 0 where
  -- no more takes: every cell in turn, or as many as were tried until one was got, maybe none
  ends : {cells patience n : ℕ} → n ≤ cells → Follows cells patience [] (first_cells n)
  -- a take, and what is tried for it
  next : {cells patience : ℕ} {hint : Option ℕ} {hints : List (Option ℕ)} {tried : List ℕ}
      → Follows cells (patience_after patience hint) hints tried
      → Follows cells patience (hint ∷ hints) (tries_for cells patience hint ++ tried)
  -- the last take, and the walk that it began got its cell
  stops : {cells n : ℕ} → n ≤ cells → Follows cells 1 (None ∷ []) (first_cells n)

module _ {P : Type 0} where
  -- the call tried these cells, in this order
  abbrev pub Tries : List ℕ → Bound P → Bound P → Type 0
  Tries cells old new = Grew (λ events. cells_tried events ≡ cells) old new

  -- it tried cells in turn from the first on
  abbrev pub Walks : Bound P → Bound P → Type 0
  Walks old new =
      (n : ℕ) × ((n ≤ old.seat.me.shape.cells) × Tries (first_cells n) old new)

  -- its tries follow these takes
  abbrev pub TriesFor : ℕ → List (Option ℕ) → Bound P → Bound P → Type 0
  TriesFor patience hints old new =
      Grew (λ events. Follows old.seat.me.shape.cells patience hints (cells_tried events)) old new

  -- A call takes hints, and its tries follow those that were taken first and then these.
  pub record Searches (patience : ℕ) (first : List (Option ℕ)) (before after : Hints)
      (old new : Bound P) : Type 0 where
    -- what the takes of the call gave, all of them
    pub given : List (Option ℕ)
    pub gives : GiveAll (cells_of (queue_of before)) (counts_of before) given
    pub counts : counts_of after ≡ after_takes (counts_of before) given
    pub tries : TriesFor patience (first ++ given) old new
