use Rattle.version_rule.proofs.AfterSteps.{shows_latest, shows_link_cut, shows_link_seen}
use Rattle.version_rule.proofs.AfterSteps.{shows_number, shows_root}
use Rattle.version_rule.proofs.theorems.reads_tell_versions.Goals as goal

pub returns : goal.returns
returns g c =
    let tree = g.S.Spelling.is_tree in
    let of = g.S.Spelling.tree_of in
    let five = g.S.Spelling.is_record in
    record {
      latest = shows_latest tree of five;
      number = shows_number tree of five;
      root = shows_root tree of five;
      link_seen = shows_link_seen tree of five;
      link_cut = shows_link_cut tree of five;
    }
