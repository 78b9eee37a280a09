use Rattle.client_heap.proofs.Carrying.{carries_left}
use Rattle.client_heap.proofs.Ways.{last_few}
use Rattle.client_heap.proofs.walking.step.Goals as goal

pub returns-clause-carries : goal.returns-clause-carries
returns-clause-carries g c =
    carries_left (g.M.ClientSeat.bound c.args.m.now) (g.M.ClientSeat.bound c.child-found.new.m)
    c.args.minor.now c.child-found.new.minor c.child-found.ensures.leaves

pub returns-clause-pass : goal.returns-clause-pass
returns-clause-pass g c = c.child-found.ensures.leaves.pass

pub returns-clause-held : goal.returns-clause-held
returns-clause-held g c = last_few _ _ _ c.child-found.ensures.last

pub returns-clause-claims : goal.returns-clause-claims
returns-clause-claims g c = c.child-found.ensures.leaves.claims
