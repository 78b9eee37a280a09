use Rattle.client_session.proofs.Commits.{outrun_ends}
use Rattle.client_session.proofs.journal.Journal.commit.Goals as goal

pub returns-in-Lost-clause-ends : goal.returns-in-Lost-clause-ends
returns-in-Lost-clause-ends g c =
    let tree = (g.H.ClientHeap.shown c.args.heap.now).tree c.args.at in
    let lost = c.in-Lost.ensures.tries in
    λ command s begun needs.
    outrun_ends c.args.self.now command c.args.version.number tree begun lost.none lost.ready
    lost.newer
