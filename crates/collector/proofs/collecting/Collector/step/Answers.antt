use Rattle.collector.specs.Bound.{control_of}
use Rattle.collector.proofs.GoingOn.{begun_at}
use Rattle.collector.proofs.collecting.Collector.step.Goals as goal

pub returns : goal.returns
returns g c =
    let moved = c.move_on.ensures.moved in
    record {
      steps = moved.steps;
      told = moved.told;
      begun = λ idle. begun_at (control_of c.args.self.now).stage c.move_on.result.went
          c.move_on.result.came c.args.self.now c.move_on.new.self idle moved.told;
      leads = moved.leads;
      stops = c.move_on.ensures.stops;
      kept = moved.kept;
      freed = moved.freed;
      there = moved.there;
    }
