use Rattle.std.proofs.Common.{[], arith}
use Rattle.script_files.proofs.MadeScripts.{made_refused}
use Rattle.script_files.proofs.made.+add_made.Goals as goal

pub returns-in-Err-clause-scripts : goal.returns-in-Err-clause-scripts
returns-in-Err-clause-scripts t c =
    made_refused c.args.start c.args.commands c.args.client c.args.more c.args.before c.in-Err.fault
    [] [] (omega (arith, c.if-more-eq0.false)) c.in-Err.ensures.script
