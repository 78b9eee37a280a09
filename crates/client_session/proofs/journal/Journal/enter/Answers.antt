use Rattle.std.proofs.Common.{refl}
use Rattle.client_session.proofs.journal.Journal.enter.Goals as goal

pub returns-clause-last : goal.returns-clause-last
returns-clause-last c = refl
