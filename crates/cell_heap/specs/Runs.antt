-- What a call of the collector's seat tells that makes a run of events: the list of them, and what
-- is known after the last one. The scan of a cell is in Scans.
-- Source: this project's.
use Rattle.std.specs.Prelude.{ℕ, ◌≡◌, ◌<◌, ◌+◌, ◌++◌, Bool, true, false, not, List, [], ◌∷◌}
use Rattle.std.specs.Prelude.{length, Option, Some, None, IfSome}
use Rattle.std.specs.List.{list_all}
use Rattle.cell_heap.specs.Telling.{FindsKnown, collector_tells}
use Rattle.cell_words.specs.declared.colours.Colour.{Colour}
use Rattle.cell_words.specs.declared.colours.Colour.TheVariants as colour
use Rattle.core_machine.specs.Collector.{Collector, scanning_from}
use Rattle.core_machine.specs.Words.{is_gray}
use Rattle.core_machine.specs.declared.events.Event.TheVariants as event
use Rattle.core_machine.specs.declared.events.Found.TheVariants as finds
use Rattle.core_machine.specs.declared.events.Taken.{Taken}
use Rattle.core_machine.specs.declared.progress.Sweeping.{Sweeping}
use Rattle.core_machine.specs.declared.progress.Sweeping.TheVariants as sweeping
use Rattle.heap_rule.specs.Rule.{took}
use Rattle.heap_table.specs.Seats.{SeatView}

-- The sweep, by the colours that it finds.

abbrev pub is_white : Colour → Bool
is_white colour.Blue = false
is_white colour.White = true
is_white colour.Gray = false
is_white colour.Black = false

-- the sweep leaves the cell in use, or free
abbrev pub is_kept : Colour → Bool
is_kept colour.Blue = true
is_kept colour.White = false
is_kept colour.Gray = false
is_kept colour.Black = true

-- a look at the cell at the position; a black one is made white
abbrev pub sweep_at : Colour → List Taken
sweep_at colour.Blue = took event.SweepLook (finds.Colour colour.Blue) ∷ []
sweep_at colour.White = took event.SweepLook (finds.Colour colour.White) ∷ []
sweep_at colour.Gray = took event.SweepLook (finds.Colour colour.Gray) ∷ []
sweep_at colour.Black = took event.SweepLook (finds.Colour colour.Black)
    ∷ took event.Whiten finds.Stored ∷ []

-- what is left to be done with it
abbrev pub left_at : Colour → Sweeping
left_at colour.Blue = sweeping.Done
left_at colour.White = sweeping.Wiping 0
left_at colour.Gray = sweeping.Fresh
left_at colour.Black = sweeping.Done

-- over cells one after the other
abbrev pub sweep_over : List Colour → List Taken
sweep_over [] = []
sweep_over (k ∷ ks) = (sweep_at k ++ took event.Advance finds.Stored ∷ []) ++ sweep_over ks

-- a look at a white cell, where there is one
abbrev pub finds_white : Option ℕ → List Taken
finds_white None = []
finds_white (Some cell) = sweep_at colour.White

-- its number, or how many cells there are
abbrev pub cell_or : Option ℕ → ℕ → ℕ
cell_or None cells = cells
cell_or (Some cell) cells = cell

-- it is to be wiped
abbrev pub left_white : Option ℕ → Sweeping
left_white None = sweeping.Fresh
left_white (Some cell) = sweeping.Wiping 0

-- Clearing and tracing.

-- clearing, by the colours that it finds
abbrev pub clear_over : List Colour → List Taken
clear_over [] = []
clear_over (k ∷ ks) = took event.ClearCell (finds.Colour k) ∷ clear_over ks

-- looks at cells one after the other, from this one on
abbrev pub see_over : ℕ → List Colour → List Taken
see_over cell [] = []
see_over cell (k ∷ ks) = took (event.See cell) (finds.Colour k) ∷ see_over (cell + 1) ks

-- a look at a gray cell, where there is one
abbrev pub finds_gray : Option ℕ → List Taken
finds_gray None = []
finds_gray (Some cell) = took (event.See cell) (finds.Colour colour.Gray) ∷ []

-- it is under scan
abbrev pub left_gray : Option ℕ → Collector → Collector
left_gray None part = part
left_gray (Some cell) part = record part { clean = false; scan = Some (scanning_from cell) }

module _ {P : Type 0} where
  -- the seat was told these events one after the other, and is then the other one; each found what
  -- the collector knew, where it did
  abbrev pub TellsAll : SeatView P → List Taken → SeatView P → Type 0
  TellsAll old [] new = new ≡ old
  TellsAll old (t ∷ ts) new = FindsKnown old.me t.event t.found
      × TellsAll (collector_tells old t.event t.found) ts new

  -- The sweep went over cells that it keeps, up to a white one, or by the last one.
  pub record SweepsOn (white : Option ℕ) (old new : SeatView P) : Type 0 where
    pub kept : List Colour
    pub are_kept : list_all (λ found. is_kept found) kept ≡ true
    pub told : TellsAll old (sweep_over kept ++ finds_white white) new
    pub many : old.me.control.position + length kept ≡ cell_or white old.me.shape.cells
    pub there : IfSome white (λ cell. cell < old.me.shape.cells)
    pub control : new.me.control
        ≡ record old.me.control { position = cell_or white old.me.shape.cells }
    pub part : new.me.part ≡ record old.me.part { sweep = left_white white }

  -- The cells from the cursor on were cleared.
  pub record ClearsOn (old new : SeatView P) : Type 0 where
    pub found : List Colour
    pub told : TellsAll old (clear_over found) new
    pub many : old.me.part.cursor + length found ≡ old.me.shape.cells
    pub control : new.me.control ≡ old.me.control
    pub part : new.me.part ≡ record old.me.part { cursor = old.me.shape.cells }

  -- The pass went by cells that are not gray, up to a gray one, or by the last one.
  pub record SeesOn (gray : Option ℕ) (old new : SeatView P) : Type 0 where
    pub found : List Colour
    pub none_gray : list_all (λ found. not (is_gray found)) found ≡ true
    pub told : TellsAll old (see_over old.me.part.cursor found ++ finds_gray gray) new
    pub many : old.me.part.cursor + length found ≡ cell_or gray old.me.shape.cells
    pub there : IfSome gray (λ cell. cell < old.me.shape.cells)
    pub control : new.me.control ≡ old.me.control
    pub part : new.me.part
        ≡ left_gray gray (record old.me.part { cursor = cell_or gray old.me.shape.cells })
