-- What each call makes of what a block's word says.
-- Source: this project's.
use Rattle.std.specs.Prelude.{ℕ, ◌+◌, ◌-◌, ◌^◌, ◌%◌, ◌==◌, min, if◌then◌else◌, Option, Some, None}
use Rattle.free_blocks.specs.declared.counts.Count.{Count}
use Rattle.free_blocks.specs.declared.steps.Step.{Step}
use Rattle.free_blocks.specs.declared.steps.Step.TheVariants.{Freed, Asked, FoundNone}

-- one more cell is thought free
abbrev pub one_more : Count → Count
one_more c = record c { number = min (c.number + 1) 512 }

-- so many cells were freed
abbrev pub freed_in : ℕ → Count → Count
freed_in n c = record { number = min (c.number + n) 512; freed = (c.freed + n) % 2 ^ 54 }

-- a cell is wanted: one is taken off, if there is one
abbrev pub asked_of : Count → Option Count
asked_of c = if c.number == 0 then None else Some (record c { number = c.number - 1 })

-- who asked when so many were freed found none: there is none, or what was taken off is put back
abbrev pub found_none_in : ℕ → Count → Count
found_none_in freed c = if c.freed == freed then record c { number = 0 } else one_more c

abbrev pub after_of : Step → Count → Option Count
after_of (Freed n) c = Some (freed_in n c)
after_of Asked c = asked_of c
after_of (FoundNone freed) c = Some (found_none_in freed c)
