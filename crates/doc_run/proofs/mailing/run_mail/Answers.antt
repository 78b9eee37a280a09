use Rattle.std.proofs.Common.{Some}
use Rattle.command_line.specs.Requests.{Mail, mail_asked_by}
use Rattle.doc_run.proofs.Deciding.{mail_refuses, refused_by}
use Rattle.doc_run.proofs.Fetching.{renamed}
use Rattle.doc_run.proofs.mailing.run_mail.Goals as goal

pub returns-in-Err : goal.returns-in-Err
returns-in-Err g c =
    let holds = g.H.Shelf.holds c.args.shelf.now in
    let mail = mail_asked_by c.args.mail.now in
    let asked = Some (Mail mail) in
    let fault = c.in-Err.fault in
    record {
      decided = refused_by holds asked c.by.result fault c.by.ensures.fault c.by.ensures.dumped
          (mail_refuses holds mail fault c.in-Err.ensures.mailed);
      reads = renamed holds asked _ _ _ _ _ _ _ _ _ c.by.result.fault fault c.by.ensures.fault
          c.in-Err.ensures.reads;
    }

pub returns : goal.returns
returns g c = record {
  decided = (c.in-Ok.ensures.mailed, c.in-Ok-text_of_run.ensures.text);
  reads = c.in-Ok.ensures.reads;
}
