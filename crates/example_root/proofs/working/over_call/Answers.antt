use Rattle.example_root.proofs.Reading.{went_out}
use Rattle.example_root.proofs.working.over_call.Goals as goal

pub returns-clause-away : goal.returns-clause-away
returns-clause-away g c =
    went_out c.args.m.now c.end.new.self c.begin.new.self _ _ c.end.ensures.told
    c.begin.ensures.told.1
