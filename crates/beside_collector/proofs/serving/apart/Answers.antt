use Rattle.std.proofs.Common.{subst}
use Rattle.beside_collector.specs.Serving.{StandsBy}
use Rattle.beside_collector.specs.declared.serving.Turn.{Turn}
use Rattle.beside_collector.proofs.Freed.{settled_off, settled_served}
use Rattle.beside_collector.proofs.serving.apart.Goals as goal

pub returns-in-Served-clause-settled : goal.returns-in-Served-clause-settled
returns-in-Served-clause-settled g c =
    let was = c.args.was.now.value.seat in
    let served = subst (λ (t : Turn _).
    StandsBy c.args.heap.now c.args.queue.now c.args.cycles was t) c.in-Served.is
    c.requires.stands in
    settled_served c.args.cycles c.in-Served.freed was c.in-Served.seat served.0 served.1

pub returns-in-HandedBack-clause-settled : goal.returns-in-HandedBack-clause-settled
returns-in-HandedBack-clause-settled g c =
    let was = c.args.was.now.value.seat in
    let stands = subst (λ (t : Turn _).
    StandsBy c.args.heap.now c.args.queue.now c.args.cycles was t) c.in-HandedBack.is
    c.requires.stands in
    settled_off was c.in-HandedBack.keeper.seat stands.1
