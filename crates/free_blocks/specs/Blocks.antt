-- What a clause says of the blocks.
-- Source: this project's.
use Rattle.std.specs.Prelude.{ℕ}
use Rattle.std.specs.Int.{div_ceil}
use Rattle.free_blocks.specs.declared.blocks.FreeBlocks.{FreeBlocks}

-- for how many cells they are
abbrev pub cells_of : FreeBlocks → ℕ
cells_of blocks = blocks.cells

-- how many blocks there are
abbrev pub blocks_of : FreeBlocks → ℕ
blocks_of blocks = div_ceil blocks.cells 512
