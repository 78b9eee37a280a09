use Rattle.std.proofs.Common.{◌∙◌, sym, subst, ap, map, string_bytes}
use Rattle.clap.specs.Words.{app_of, found_of, rows_of}
use Rattle.command_line.specs.Requests.{Gives, if_some_mail, mail_asked_by, mail_found}
use Rattle.command_line.specs.Commands.{mail_app}
use Rattle.command_line.proofs.Taken.{refuses, takes}
use Rattle.command_line.proofs.reading.mail_words.Goals as goal

pub returns-in-Err-clause-mail : goal.returns-in-Err-clause-mail
returns-in-Err-clause-mail c =
    refuses mail_asked_by (app_of c.in_ok-command.command) mail_app
    (λ rows. if_some_mail (mail_found rows)) (map string_bytes c.args.words.now)
    c.in-Err.fault c.in_ok-command.ensures c.in-Err.ensures.usage

pub returns-in_ok-mail-in-Ok-clause-mail : goal.returns-in_ok-mail-in-Ok-clause-mail
returns-in_ok-mail-in-Ok-clause-mail c =
    let words = map string_bytes c.args.words.now in
    let rows = rows_of (found_of c.in-Ok.matches) in
    let found = takes (app_of c.in_ok-command.command) mail_app
    (λ rows. if_some_mail (mail_found rows)) words rows
    c.in_ok-command.ensures c.in-Ok.ensures.takes c.in-Ok.ensures.rows in
    subst (Gives mail_asked_by c.some_sender.result)
    (sym (found ∙ ap if_some_mail (sym c.in_ok-mail-in-Ok.ensures.ok))) c.some_sender.ensures.mail
