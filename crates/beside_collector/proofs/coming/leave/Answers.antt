use Rattle.beside_collector.proofs.Leaving.{left_so}
use Rattle.beside_collector.proofs.coming.leave.Goals as goal

pub returns : goal.returns
returns g c = record {
  left = left_so c.args.m c.pause.new.m _ _ c.finish.result c.pause.ensures.same
      c.finish.ensures.told.1;
}
