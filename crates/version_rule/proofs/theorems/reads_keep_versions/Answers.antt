use Rattle.version_rule.proofs.Reading.{latest_picks, link_cut_picks, link_seen_picks, tree_picks}
use Rattle.version_rule.proofs.theorems.reads_keep_versions.Goals as goal

pub returns : goal.returns
returns g c =
    let tree = g.S.Spelling.is_tree in
    let of = g.S.Spelling.tree_of in
    let five = g.S.Spelling.is_record in
    record {
      latest = latest_picks tree of five;
      tree = λ v place n root knows. tree_picks tree of five v place n root knows 1;
      link_seen = link_seen_picks tree of five;
      link_cut = link_cut_picks tree of five;
    }
