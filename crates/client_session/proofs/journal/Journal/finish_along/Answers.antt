use Rattle.std.proofs.Common.{arith}
use Rattle.client_session.proofs.Commits.{never_wants, refused_ends}
use Rattle.client_session.proofs.journal.Journal.finish_along.Goals as goal

pub returns-in-Ok-clause-ends : goal.returns-in-Ok-clause-ends
returns-in-Ok-clause-ends g c = λ command f s works.
    c.commit_along-ended.ensures.ends command f s (rw c.in-Ok.is at works)

pub returns-in-Ok-refused-clause-ends : goal.returns-in-Ok-refused-clause-ends
returns-in-Ok-refused-clause-ends g c = λ command f s works.
    let told = c.in-Ok-refused.ensures in
    refused_ends c.args.self.now command c.args.opened.version.number c.in-Err.fault
    c.in-Ok-refused.given (rw c.in-Err.is at works.begun) (omega (arith, c.requires.room))
    told.reply told.kept told.place

pub returns-in-Err-refused-clause-spared : goal.returns-in-Err-refused-clause-spared
returns-in-Err-refused-clause-spared g c = λ spared.
    absurd (never_wants c.in-Err.fault c.in-Err-refused.ensures.wants (rw c.in-Err.is at spared))
