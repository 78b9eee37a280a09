use Rattle.example_root.proofs.Reading.{ends_trail}
use Rattle.example_root.proofs.places.leave.Goals as goal

pub returns-clause-trail : goal.returns-clause-trail
returns-clause-trail c =
    ends_trail c.args.m c.end.new.self c.finish.result _ _ _ _ c.end.ensures.told
    c.finish.ensures.told.1
