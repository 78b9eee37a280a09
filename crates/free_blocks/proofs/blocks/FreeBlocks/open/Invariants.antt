use Rattle.std.proofs.Common.{◌≡◌, vec_len}
use Rattle.free_blocks.proofs.blocks.FreeBlocks.open.Given as goal

abbrev pub invariant-loop-block : goal.invariant-loop-block
invariant-loop-block l = vec_len l.words ≡ l.block
