use Rattle.beside_collector.proofs.Leaving.{same_in}
use Rattle.beside_collector.proofs.coming.wake.Goals as goal

pub returns-clause-same : goal.returns-clause-same
returns-clause-same g c = same_in c.args.m.now c.begin.new.self _ _ c.begin.ensures.told.1
