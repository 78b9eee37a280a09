use Rattle.std.proofs.Common.{arith}
use Rattle.std.proofs.lemmas.Grind.{common_steps}
use Rattle.store_run.proofs.Counts.{made_count}
use Rattle.store_run.proofs.totals.new_versions.Goals as goal

pub returns-clause-count : goal.returns-clause-count
returns-clause-count c = grind (arith, common_steps, made_count c.args.entries.now)
