use Rattle.std.proofs.Common.{◌∙◌}
use Rattle.beside_collector.proofs.Scripts.{script_none, script_there}
use Rattle.beside_collector.proofs.script.script_at.Goals as goal

pub returns-in-Some : goal.returns-in-Some
returns-in-Some g c = record {
  script = c.as_slice.ensures.value
      ∙ script_there c.args.scripts.now c.args.place c.in-Some.script.now
      c.in-Some.ensures.lookup.3.0 (c.in-Some.ensures.lookup.3.1 c.in-Some.script.now);
}

pub returns-in-None : goal.returns-in-None
returns-in-None g c = record {
  script = script_none c.args.scripts.now c.args.place c.in-None.ensures.lookup.3;
}
