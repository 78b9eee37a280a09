use Rattle.version_rule.proofs.Trees.{committed_grows, cutting_grows, grows_on, reading_grows}
use Rattle.version_rule.proofs.Trees.{seeing_grows}
use Rattle.version_rule.proofs.theorems.passes_grow.Goals as goal

pub returns : goal.returns
returns c = record {
  seeing = seeing_grows;
  reading = reading_grows;
  cutting = cutting_grows;
  committed = committed_grows;
  on = grows_on;
}
