use Rattle.version_tests.proofs.Growing.{grows_latest}
use Rattle.version_tests.proofs.working.look.Goals as goal

pub returns-clause-grows : goal.returns-clause-grows
returns-clause-grows c =
    grows_latest c.args.m.now c.current.new.m c.current.result c.current.ensures.latest
    c.current.ensures.same c.current.ensures.lasts
