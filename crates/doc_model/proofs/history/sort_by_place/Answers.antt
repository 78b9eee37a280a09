use Rattle.std.proofs.Common.{refl}
use Rattle.std.proofs.lemmas.Result.{on_ok_weaker}
use Rattle.doc_model.proofs.Sorting.{sorted_by_place}
use Rattle.doc_model.proofs.history.sort_by_place.Goals as goal

pub returns-clause-sorted : goal.returns-clause-sorted
returns-clause-sorted c =
    on_ok_weaker c.sort_by_key.result
    (λ up. sorted_by_place c.sort_by_key.new.self.items up (λ a r f k. (cc, refl)))
    c.sort_by_key.ensures.sorted
