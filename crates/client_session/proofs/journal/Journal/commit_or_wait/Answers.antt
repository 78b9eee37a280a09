use Rattle.client_session.proofs.Regrafts.{lost_waited}
use Rattle.client_session.proofs.journal.Journal.commit_or_wait.Goals as goal

pub returns-in-Lost-clause-tries : goal.returns-in-Lost-clause-tries
returns-in-Lost-clause-tries g c =
    lost_waited c.in-Lost.ensures.tries c.back_off.ensures.rests c.back_off.ensures.still
