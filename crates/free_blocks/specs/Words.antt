-- What a block's word says: how many cells are thought free, and how many were noted as freed.
-- Source: this project's.
use Rattle.std.specs.Prelude.{ℕ, ◌%◌, ◌/◌, min}
use Rattle.free_blocks.specs.declared.counts.Count.{Count}

-- a block has 512 cells
abbrev pub count_of : ℕ → Count
count_of word = record { number = min (word % 1024) 512; freed = word / 1024 }
