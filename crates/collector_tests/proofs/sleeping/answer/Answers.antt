use Rattle.collector_tests.proofs.Inside.{still_in}
use Rattle.collector_tests.proofs.sleeping.answer.Goals as goal

pub returns : goal.returns
returns c = record {
  inside = still_in c.args.heap.now c.args.mutator.now c.answer.new.self
      c.answer.ensures.calm.kept c.requires.inside;
}
