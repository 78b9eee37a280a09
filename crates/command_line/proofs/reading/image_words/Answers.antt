use Rattle.std.proofs.Common.{◌∙◌, sym, subst, ap, map, string_bytes, false}
use Rattle.clap.specs.Words.{app_of, found_of, rows_of}
use Rattle.command_line.specs.Requests.{Gives, if_some_file, run_asked_by, run_with}
use Rattle.command_line.specs.Commands.{image_app}
use Rattle.command_line.proofs.Taken.{refuses, takes}
use Rattle.command_line.proofs.reading.image_words.Goals as goal

pub returns-in-Err-clause-run : goal.returns-in-Err-clause-run
returns-in-Err-clause-run c =
    refuses run_asked_by (app_of c.in_ok-command.command) image_app
    (λ rows. if_some_file (run_with false false rows)) (map string_bytes c.args.words.now)
    c.in-Err.fault c.in_ok-command.ensures c.in-Err.ensures.usage

pub returns-in_ok-run-in-Ok-clause-run : goal.returns-in_ok-run-in-Ok-clause-run
returns-in_ok-run-in-Ok-clause-run c =
    let words = map string_bytes c.args.words.now in
    let rows = rows_of (found_of c.in-Ok.matches) in
    let found = takes (app_of c.in_ok-command.command) image_app
    (λ rows. if_some_file (run_with false false rows)) words rows
    c.in_ok-command.ensures c.in-Ok.ensures.takes c.in-Ok.ensures.rows in
    subst (Gives run_asked_by c.some_file.result)
    (sym (found ∙ ap if_some_file (sym c.in_ok-run-in-Ok.ensures.ok))) c.some_file.ensures.run
