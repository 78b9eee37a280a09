use Rattle.version_rule.proofs.Reached.{only_these}
use Rattle.version_rule.proofs.Staying.{chain_stays}
use Rattle.version_rule.proofs.theorems.as_many_versions_stay.Goals as goal

pub returns : goal.returns
returns g c =
    let tree = g.S.Spelling.is_tree in
    let of = g.S.Spelling.tree_of in
    record {
      stay = chain_stays tree of;
      only = λ s l passes h number count stays shape facts nobody. only_these tree of
          g.S.Spelling.is_record s l shape facts passes h stays.cells number stays.chain nobody;
    }
