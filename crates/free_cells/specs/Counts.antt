-- What a pass of the queue of hints knows and has done, and what each call makes of it.
-- Source: this project's.
use Rattle.std.specs.Prelude.{ℕ, ◌≡◌, ◌+◌, List, [], ◌∷◌, ◌++◌, drop, slice_get}
use Rattle.std.specs.Prelude.{Option, Some, None, IfSome}
use Rattle.std.specs.Option.{option_map}
use Rattle.std.specs.List.{range_with_len}
use Rattle.free_cells.specs.declared.counts.Counts.{Counts}

-- a pass that is not in use
abbrev pub unused : Counts
unused = record { cells = 0; content = None; pushes = 0; pops = 0; puts = 0; takes = 0 }

-- the only pass of an empty queue
abbrev pub opened : ℕ → Counts
opened cells = record unused { cells = cells; content = Some [] }

-- that was filled with so many numbers, from the first on
abbrev pub filled : ℕ → ℕ → ℕ → Counts
filled cells first count =
    record unused { cells = cells; content = Some (range_with_len first count); pushes = count }

-- a pass is no longer the only one
abbrev pub shared : Counts → Counts
shared counts = record counts { content = None }

-- a pass that was split off
abbrev pub begun : Counts → Counts
begun counts = record unused { cells = counts.cells }

-- a number joins at the back
abbrev pub pushed : ℕ → Counts → Counts
pushed cell counts =
    record counts {
      content = option_map (λ items. items ++ cell ∷ []) counts.content;
      pushes = counts.pushes + 1;
    }

-- by a `put`
abbrev pub put : ℕ → Counts → Counts
put cell counts = record (pushed cell counts) { puts = counts.puts + 1 }

-- a `put` found no room
abbrev pub put_refused : Counts → Counts
put_refused counts = record counts { puts = counts.puts + 1 }

-- a number left at the front, by a `take`
abbrev pub taken : Counts → Counts
taken counts =
    record counts {
      content = option_map (drop 1) counts.content;
      pops = counts.pops + 1;
      takes = counts.takes + 1;
    }

-- a `take` found no number
abbrev pub none_taken : Counts → Counts
none_taken counts = record counts { takes = counts.takes + 1 }

-- the queue holds just these numbers, where that is known
abbrev pub IsContent : Option (List ℕ) → List ℕ → Type 0
IsContent content items = IfSome content (λ known. items ≡ known)

-- the number is the one at the front, where that is known
abbrev pub IsFront : ℕ → Option (List ℕ) → Type 0
IsFront cell content = IfSome content (λ known. slice_get known 0 ≡ Some cell)
