use Rattle.version_tests.proofs.Growing.{grows_pruned}
use Rattle.version_tests.proofs.working.prune.Goals as goal

pub returns : goal.returns
returns c = record {
  grows = grows_pruned c.args.m.now c.trim.new.m c.args.v c.args.keep c.trim.ensures.trims
      c.trim.ensures.nothing c.trim.ensures.held c.trim.ensures.same c.trim.ensures.lasts;
}
