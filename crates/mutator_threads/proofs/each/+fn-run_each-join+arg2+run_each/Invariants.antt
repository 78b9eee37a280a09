use Rattle.std.proofs.Common.{length}
use Rattle.mutator_threads.proofs.each.+fn-run_each-join+arg2+run_each.Given as goal

abbrev pub decreases-join+arg2 : goal.decreases-join+arg2
decreases-join+arg2 g l = length l.work.items

abbrev pub decreases-run_each : goal.decreases-run_each
decreases-run_each g l = length l.work.items
