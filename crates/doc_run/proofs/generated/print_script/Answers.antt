use Rattle.doc_run.proofs.Deciding.{made_printed, made_wants, refused_by}
use Rattle.std.proofs.Common.{Some}
use Rattle.command_line.specs.Requests.{Gen}
use Rattle.script_files.specs.declared.fault.Fault.TheVariants.{Memory}
use Rattle.doc_run.proofs.generated.print_script.Goals as goal

pub returns-in-Ok : goal.returns-in-Ok
returns-in-Ok c = record {
  decided = λ holds. made_printed holds c.args.made c.args.client c.in-Ok.text c.requires.few
      c.requires.print c.in-Ok.ensures.script;
}

pub returns-in-Err : goal.returns-in-Err
returns-in-Err c = record {
  decided = λ holds. refused_by holds (Some (Gen c.args.made)) c.by.result Memory
      c.by.ensures.fault c.by.ensures.dumped (made_wants holds c.args.made);
}
