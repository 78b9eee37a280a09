use Rattle.std.proofs.Common.{Bor, List, ℕ, Ok, Err, Some, ap, map, subst}
use Rattle.std.proofs.lemmas.List.{length-map}
use Rattle.std.specs.Prelude.{Vec}
use Rattle.std.specs.declared.alloc.Global.{Global}
use Rattle.command_line.specs.Requests.{Mail, mail_asked_by}
use Rattle.script_files.specs.Mail.{IsMail, StopsAtMail, senders_read, values_of}
use Rattle.script_files.specs.Sorts.{OfMail, Refused, sort_of}
use Rattle.doc_run.specs.Mailed.{FinishesMail}
use Rattle.doc_run.proofs.Fetching.{ended_mail, read_lent}
use Rattle.doc_run.proofs.Mailboxes.{decided}
use Rattle.doc_run.proofs.mailing.mail_files.Goals as goal

pub returns-in-Ok : goal.returns-in-Ok
returns-in-Ok g c =
    let holds = g.H.Shelf.holds c.args.shelf.now in
    let mail = mail_asked_by c.args.mail.now in
    let items = c.args.mail.now.files.items in
    let lent = c.deref.result.now in
    let before = g.H.Shelf.opens c.args.shelf.now in
    let after = g.H.Shelf.opens c.mail_in_files.new.shelf in
    let many = length-map items (λ (name : Bor (List ℕ)). name.now) in
    let scripts = c.in-Ok.scripts in
    let values = values_of scripts.items in
    let finishes = subst (λ (all : List (Vec ℕ Global)). FinishesMail mail.cells mail.cycles
    (values_of all) c.mail_all.result) c.deref-in-Ok.ensures.value c.mail_all.ensures in
    record {
      mailed = decided mail (map holds mail.files) values c.mail_all.result
          (subst (λ (names : List (Bor (List ℕ))). IsMail
          (map holds (map (λ name. name.now) names)) (Ok values))
          c.deref.ensures.value c.in-Ok.ensures.scripts) finishes;
      reads = ended_mail holds (Some (Mail mail)) _ _ _ _ _ _ _ _ _ mail.cells mail.cycles values
          c.mail_all.result finishes
          (read_lent holds (Some (Mail mail)) _ _ _ _ _ _ _ _ _ (Ok scripts) items lent
          (λ n. senders_read n) (λ told. StopsAtMail told before after) c.deref.ensures.value many
          (ap (λ n. senders_read n) many) (λ stops. stops) c.in-Ok.ensures.read
          c.in-Ok.ensures.read_file c.in-Ok.ensures.opens c.in-Ok.ensures.all_opened
          c.in-Ok.ensures.stops c.in-Ok.ensures.calls c.in-Ok.ensures.unbroken
          c.in-Ok.ensures.orderly);
    }

pub returns-in-Err : goal.returns-in-Err
returns-in-Err g c =
    let holds = g.H.Shelf.holds c.args.shelf.now in
    let mail = mail_asked_by c.args.mail.now in
    let items = c.args.mail.now.files.items in
    let lent = c.deref.result.now in
    let before = g.H.Shelf.opens c.args.shelf.now in
    let after = g.H.Shelf.opens c.mail_in_files.new.shelf in
    let many = length-map items (λ (name : Bor (List ℕ)). name.now) in
    let fault = c.in-Err.fault in
    record {
      mailed = subst (λ (names : List (Bor (List ℕ))). Refused OfMail (sort_of fault)
          (IsMail (map holds (map (λ name. name.now) names)) (Err fault)) (Unit {0}))
          c.deref.ensures.value c.in-Err.ensures.scripts;
      reads = read_lent holds (Some (Mail mail)) _ _ _ _ _ _ _ _ _ (Err fault) items lent
          (λ n. senders_read n) (λ told. StopsAtMail told before after) c.deref.ensures.value many
          (ap (λ n. senders_read n) many) (λ stops. stops) c.in-Err.ensures.read
          c.in-Err.ensures.read_file c.in-Err.ensures.opens c.in-Err.ensures.all_opened
          c.in-Err.ensures.stops c.in-Err.ensures.calls c.in-Err.ensures.unbroken
          c.in-Err.ensures.orderly;
    }
