-- What a thread's pass of the queue of hints knows once the numbers of cells were offered, and
-- which cells a stretch of the collector's events has freed.
-- Source: this project's.
use Rattle.std.specs.Prelude.{ℕ, ◌≡◌, ◌⊎◌, List, [], ◌∷◌, ◌++◌, drop, length}
use Rattle.cell_words.specs.declared.controls.Control.{Control}
use Rattle.core_machine.specs.Collector.{control_after}
use Rattle.core_machine.specs.declared.events.Event.{Event}
use Rattle.core_machine.specs.declared.events.Event.TheVariants as event
use Rattle.core_machine.specs.declared.events.Taken.{Taken}
use Rattle.free_cells.specs.Counts.{put, put_refused}
use Rattle.free_cells.specs.declared.counts.Counts.{Counts}
use Rattle.collector.specs.Bound.{Bound, control_of}

-- the number joined the queue at its back, or there was no room for it
abbrev pub Offers : ℕ → Counts → Counts → Type 0
Offers cell old new = (new ≡ put cell old) ⊎ (new ≡ put_refused old)

-- each of these was offered, in this order
abbrev pub OffersAll : List ℕ → Counts → Counts → Type 0
OffersAll [] old new = new ≡ old
OffersAll (cell ∷ cells) old new = (next : Counts) × Offers cell old next
    × OffersAll cells next new

-- a Free is of the cell at the position
abbrev pub frees_at : Control → Event → List ℕ
frees_at control event.Free = control.position ∷ []
frees_at control _ = []

-- the cells that these events free, in their order, by the control before them
abbrev pub freed_along : Control → List Taken → List ℕ
freed_along control [] = []
freed_along control (t ∷ ts) =
    frees_at control t.event ++ freed_along (control_after control t.event) ts

module _ {P : Type 0} where
  -- the cells that the events after the old trail free
  abbrev pub freed_since : Bound P → Bound P → List ℕ
  freed_since old new =
      freed_along (control_of old) (drop (length old.seat.me.trail) new.seat.me.trail)
