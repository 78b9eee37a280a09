use Rattle.std.proofs.Common.{All, take}
use Rattle.record_copying.specs.Copies.{IsCopied}
use Rattle.record_copying.proofs.slices.are_copied.Given as goal

abbrev pub invariant-loop-r : goal.invariant-loop-r
invariant-loop-r l = All (IsCopied l.copied) (take l.r-index l.roots)
