use Rattle.std.proofs.Common.{◌≡◌}
use Rattle.std.specs.Vec.{vec_capacity}
use Rattle.std.proofs.lemmas.Result.{on_err_weaker}
use Rattle.doc_model.proofs.log.Log.reserve.Goals as goal

pub returns-clause-err : goal.returns-clause-err
returns-clause-err c =
    on_err_weaker {P = vec_capacity c.reserve.new.self ≡ vec_capacity c.self.inside.entries}
    c.reserve.result (λ same. cc) c.reserve.ensures.err
