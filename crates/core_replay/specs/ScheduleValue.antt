-- A schedule as contracts see it.
-- Source: this project's.
use Rattle.std.specs.Prelude.{Bool, ◌&&◌, List, nat_le}
use Rattle.core_replay.specs.declared.line.Numbered.{Numbered}
use Rattle.core_replay.specs.declared.start.Sizes.{Sizes}

-- the sizes of the core, and what is asked for, line by line
pub record ScheduleValue : Type 0 where
  pub sizes : Sizes
  pub steps : List Numbered

-- sizes that a core can have
abbrev pub are_sizes : Sizes → Bool
are_sizes sizes =
    nat_le 1 sizes.cells && nat_le sizes.cells 256
    && nat_le 1 sizes.mutators && nat_le sizes.mutators 64
    && nat_le 1 sizes.room && nat_le sizes.room 1024
