use Rattle.std.proofs.Common.{Err, [], ap}
use Rattle.script_files.proofs.MadeScripts.{made_all, made_not}
use Rattle.doc_model.specs.Scripts.{lists_of}
use Rattle.script_files.proofs.made.scripts_made.Goals as goal

pub returns-in-Ok-clause-scripts : goal.returns-in-Ok-clause-scripts
returns-in-Ok-clause-scripts c =
    made_all _ _ _ c.add_made.new.scripts _ (ap lists_of c.new-scripts.ensures.items)
    c.in-Ok.ensures.scripts

pub returns-in-Err-clause-scripts : goal.returns-in-Err-clause-scripts
returns-in-Err-clause-scripts c =
    made_not c.args.start c.args.clients c.args.commands c.in-Err.fault [] [] c.requires.start
    c.requires.clients.1 c.requires.commands.1 c.requires.few
    (λ file e. c.in-Err.ensures.read file (ap Err e)) c.in-Err.ensures.scripts
