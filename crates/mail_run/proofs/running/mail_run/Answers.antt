use Rattle.run_limits.specs.declared.TheConstants.{MOST_COMMANDS}
use Rattle.mail_run.proofs.Lines.{each_short}
use Rattle.mail_run.proofs.running.mail_run.Goals as goal

pub open_mail-requires-clause-short : goal.open_mail-requires-clause-short
open_mail-requires-clause-short g c = each_short c.args.scripts.now MOST_COMMANDS c.requires.lines
