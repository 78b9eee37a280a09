use Rattle.std.proofs.Common.{arith}
use Rattle.client_session.proofs.Commits.{refused_ends}
use Rattle.client_session.proofs.Commits.{never_wants}
use Rattle.client_session.proofs.journal.Journal.finish.Goals as goal

pub returns-in-Ok-refused-clause-ends : goal.returns-in-Ok-refused-clause-ends
returns-in-Ok-refused-clause-ends g c = λ command s begun needs.
    let told = c.in-Ok-refused.ensures in
    refused_ends c.args.self.now command c.args.version.number c.in-Err.fault
    c.in-Ok-refused.given (rw c.in-Err.is at begun) (omega (arith, c.requires.room))
    told.reply told.kept told.place

pub returns-in-Err-refused-clause-spared : goal.returns-in-Err-refused-clause-spared
returns-in-Err-refused-clause-spared g c = λ spared.
    absurd (never_wants c.in-Err.fault c.in-Err-refused.ensures.wants (rw c.in-Err.is at spared))
