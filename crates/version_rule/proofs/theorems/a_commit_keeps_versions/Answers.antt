use Rattle.version_rule.proofs.AfterSteps.{shows_commit}
use Rattle.version_rule.proofs.Writing.{commit_picks}
use Rattle.version_rule.proofs.theorems.a_commit_keeps_versions.Goals as goal

pub returns : goal.returns
returns g c =
    let tree = g.S.Spelling.is_tree in
    let of = g.S.Spelling.tree_of in
    let five = g.S.Spelling.is_record in
    record {
      keeps = commit_picks tree of five;
      shows = λ v w place latest box root number word before made may step.
          shows_commit tree of five v w word place latest box root number before made may step;
    }
