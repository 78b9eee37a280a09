use Rattle.version_rule.proofs.Tying.{agree}
use Rattle.version_rule.proofs.theorems.tied_logs_agree.Goals as goal

pub returns : goal.returns
returns g c = λ l map passes logs h tied clients.
    agree l h.trees passes logs h.versions tied clients
