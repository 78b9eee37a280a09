use Rattle.std.proofs.Common.{◌≡◌, flat_map, take}
use Rattle.doc_model.proofs.history.merge.Given as goal

abbrev pub invariant-loop-log : goal.invariant-loop-log
invariant-loop-log l = l.all.items ≡ flat_map (λ g. g.entries) (take l.log-index l.logs)
