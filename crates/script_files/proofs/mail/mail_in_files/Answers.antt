use Rattle.std.proofs.Common.{arith}
use Rattle.script_files.proofs.Files.{too_many_files, told_names}
use Rattle.script_files.specs.Mail.{parse_mail}
use Rattle.script_files.proofs.mail.mail_in_files.Goals as goal

pub returns-then-names-gt-MOST_SENDERS-clause-scripts :
    goal.returns-then-names-gt-MOST_SENDERS-clause-scripts
returns-then-names-gt-MOST_SENDERS-clause-scripts g c =
    let many = told_names (g.H.Shelf.holds c.args.shelf.now) (λ name. name.now) c.args.names.now in
    too_many_files 63 parse_mail _ (omega (arith, many, c.if-names-gt-MOST_SENDERS.true))
