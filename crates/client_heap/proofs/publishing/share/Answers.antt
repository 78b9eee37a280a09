use Rattle.client_heap.proofs.Carrying.{carries_none}
use Rattle.client_heap.proofs.publishing.share.Goals as goal

pub returns-in-Shared-clause-carries : goal.returns-in-Shared-clause-carries
returns-in-Shared-clause-carries g c = carries_none c.args.m.now c.args.minor.now
