use Rattle.std.proofs.Common.{length}
use Rattle.script_files.proofs.in_turn.+gather.Given as goal

abbrev pub decreases-gather : goal.decreases-gather
decreases-gather g l = length l.names.now
