use Rattle.version_rule.proofs.AfterSteps.{reads_latest}
use Rattle.version_rule.proofs.theorems.the_latest_is_read.Goals as goal

pub returns : goal.returns
returns g c = reads_latest g.S.Spelling.is_tree
