use Rattle.client_run.proofs.Handshakes.{calm_grown, kept_may}
use Rattle.client_run.proofs.theorems.a_session_may_answer_behind_a_handshake.Goals as goal

pub returns : goal.returns
returns c = λ s m n answered may calm.
    kept_may m n calm.kept (calm_grown _ m n calm) s may
