use Rattle.beside_collector.proofs.Leaving.{same_out}
use Rattle.beside_collector.proofs.coming.pause.Goals as goal

pub returns-clause-same : goal.returns-clause-same
returns-clause-same g c = same_out c.args.m.now c.end.new.self _ _ c.end.ensures.told
