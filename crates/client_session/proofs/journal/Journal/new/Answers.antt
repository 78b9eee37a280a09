use Rattle.std.proofs.Common.{List, ap, map}
use Rattle.client_session.specs.Turns.{bounds}
use Rattle.client_session.proofs.journal.Journal.new.Goals as goal
use Rattle.client_history.proofs.Stepping.{in_step_opening}
use Rattle.version_rule.specs.Pass.{Commit}

pub returns-clause-step : goal.returns-clause-step
returns-clause-step c = λ s keep none draft.
    in_step_opening (bounds c.args.limits) s c.new.result keep
    (ap (λ (cs : List Commit). map (λ (x : Commit). x.number) cs) none) draft
    c.new.ensures.entries
