use Rattle.std.proofs.Common.{◌≡◌, true, ◌∙◌}
use Rattle.version_tests.proofs.Growing.{grows_commit, grows_root, grows_then}
use Rattle.version_tests.proofs.working.put.Goals as goal

pub commit-requires-clause-version : goal.commit-requires-clause-version
commit-requires-clause-version g c =
    let first = grows_root _ _ c.args.m.now c.tree-root.new.m c.args.v c.tree-root.result
    c.tree-root.ensures.root c.tree-root.ensures.same c.tree-root.ensures.lasts in
    first.versions c.args.v c.requires.version

pub commit-requires-clause-inside : goal.commit-requires-clause-inside
commit-requires-clause-inside g c = c.tree-root.ensures.same.inside ∙ c.requires.inside

pub returns : goal.returns
returns g c =
    let first = grows_root _ _ c.args.m.now c.tree-root.new.m c.args.v c.tree-root.result
    c.tree-root.ensures.root c.tree-root.ensures.same c.tree-root.ensures.lasts in
    record {
      grows = grows_then 1 0 0 1 c.args.m.now c.tree-root.new.m c.commit.new.m first
          (grows_commit _ _ c.tree-root.new.m c.commit.new.m c.args.v c.tree-root.result
          c.commit.result c.commit.ensures.held c.commit.ensures.made c.commit.ensures.refused
          c.commit.ensures.same c.commit.ensures.lasts);
    }
