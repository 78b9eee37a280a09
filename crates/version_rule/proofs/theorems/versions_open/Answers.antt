use Rattle.version_rule.proofs.Openings.{firsts, opened}
use Rattle.version_rule.proofs.theorems.versions_open.Goals as goal

pub returns : goal.returns
returns g c = record {
  terms = firsts;
  holds = opened g.S.Spelling.is_tree g.S.Spelling.tree_of g.S.Spelling.bare g.S.Spelling.bare_is;
}
