use Rattle.client_heap.proofs.Carrying.{carries_fewer, carries_then}
use Rattle.client_heap.proofs.walking.+node_below.Goals as goal

pub returns-in-Some-clause-carries : goal.returns-in-Some-clause-carries
returns-in-Some-clause-carries g t c =
    let first = c.step.ensures.carries in
    carries_then first (carries_fewer _ first.longer c.node_below-found.ensures.carries)
