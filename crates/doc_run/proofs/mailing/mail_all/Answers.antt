use Rattle.doc_run.proofs.Mailboxes.{few_lines}
use Rattle.doc_run.proofs.mailing.mail_all.Goals as goal
use Rattle.run_limits.specs.declared.TheConstants.{MOST_COMMANDS}

pub mail_run-requires-clause-lines : goal.mail_run-requires-clause-lines
mail_run-requires-clause-lines g c κs within =
    few_lines c.args.scripts.now MOST_COMMANDS c.requires.total
