use Rattle.std.proofs.Common.{◌∙◌, sym, subst, ap, codes, map, string_bytes}
use Rattle.clap.specs.Words.{all_of, app_of, found_of, rows_of}
use Rattle.command_line.specs.Readings.{names_in}
use Rattle.command_line.specs.Requests.{Gives, if_some_name, names_by}
use Rattle.command_line.specs.Commands.{dump_app}
use Rattle.command_line.proofs.Taken.{refuses, takes}
use Rattle.command_line.proofs.reading.dump_words.Goals as goal

pub returns-in-Err-clause-names : goal.returns-in-Err-clause-names
returns-in-Err-clause-names c =
    refuses names_by (app_of c.in_ok-command.command) dump_app
    (λ rows. if_some_name (names_in (all_of (codes "file") rows)))
    (map string_bytes c.args.words.now) c.in-Err.fault c.in_ok-command.ensures
    c.in-Err.ensures.usage

pub returns-in_ok-names-in-Ok-clause-names : goal.returns-in_ok-names-in-Ok-clause-names
returns-in_ok-names-in-Ok-clause-names c =
    let words = map string_bytes c.args.words.now in
    let rows = rows_of (found_of c.in-Ok.matches) in
    let found = takes (app_of c.in_ok-command.command) dump_app
    (λ rows. if_some_name (names_in (all_of (codes "file") rows))) words rows
    c.in_ok-command.ensures c.in-Ok.ensures.takes c.in-Ok.ensures.rows in
    subst (Gives names_by c.some_name.result)
    (sym (found ∙ ap if_some_name (sym c.in_ok-names-in-Ok.ensures))) c.some_name.ensures.names
