use Rattle.std.proofs.Common.{take}
use Rattle.heap_c.specs.Walking.{Follows}
use Rattle.heap_c.proofs.walking.follow.Given as goal

abbrev pub invariant-loop-field : goal.invariant-loop-field
invariant-loop-field l = Follows l.fn.mine l.fn.of (take l.field-index l.path) l.mine l.at
