use Rattle.std.proofs.Common.{Some}
use Rattle.command_line.specs.Requests.{Gen}
use Rattle.script_files.specs.declared.fault.Fault.TheVariants.{Memory}
use Rattle.doc_run.proofs.Deciding.{made_ran, made_wants, refused_by}
use Rattle.doc_run.proofs.generated.run_scripts.Goals as goal

pub returns-in-Err : goal.returns-in-Err
returns-in-Err g c = record {
  decided = λ holds. refused_by holds (Some (Gen c.args.made)) c.by.result Memory
      c.by.ensures.fault c.by.ensures.dumped (made_wants holds c.args.made);
}

pub returns : goal.returns
returns g c = record {
  decided = λ holds. made_ran holds c.args.made c.in-Ok-summary_of.text c.in-Ok.finished
      c.requires.few c.requires.none c.in-Ok.ensures.finished c.in-Ok-summary_of.ensures.text;
}
