use Rattle.std.proofs.Common.{◌≡◌}
use Rattle.clap.proofs.WalkLemmas.{both}
use Rattle.command_line.proofs.Accepted.{accepted}
use Rattle.command_line.specs.declared.request.WordsFault.TheVariants as fault
use Rattle.command_line.proofs.values.matches_on.Goals as goal

pub returns-in-Ok-clause-rows : goal.returns-in-Ok-clause-rows
returns-in-Ok-clause-rows c = (c.in-Ok.ensures.matches (both _ _ c.requires.simple).0).0

pub returns-in-Ok-clause-accepted : goal.returns-in-Ok-clause-accepted
returns-in-Ok-clause-accepted c =
    accepted c.args.command c.in-Ok.matches c.in-Ok.ensures.parsed (both _ _ c.requires.simple).0

-- out of memory is no fault of the words
no_usage : {A : Type 0} → fault.NoMemory ≡ fault.Usage → A
no_usage same = cc

pub returns-in-Err-clause-usage : goal.returns-in-Err-clause-usage
returns-in-Err-clause-usage c = λ same free. no_usage same

pub returns-in-Ok-clause-takes : goal.returns-in-Ok-clause-takes
returns-in-Ok-clause-takes c = c.in-Ok.ensures.kinds c.requires.simple
