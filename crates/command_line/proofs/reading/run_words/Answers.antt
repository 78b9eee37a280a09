use Rattle.std.proofs.Common.{◌∙◌, sym, subst, ap, codes, map, string_bytes}
use Rattle.clap.specs.Words.{app_of, first_of, found_of, rows_of}
use Rattle.command_line.specs.Readings.{flag_in}
use Rattle.command_line.specs.Requests.{Gives, if_some_file, run_asked_by, run_found, run_with}
use Rattle.command_line.specs.Commands.{run_app}
use Rattle.command_line.proofs.Taken.{refuses, takes}
use Rattle.command_line.proofs.reading.run_words.Goals as goal

pub returns-in-Err-clause-run : goal.returns-in-Err-clause-run
returns-in-Err-clause-run c =
    refuses run_asked_by (app_of c.in_ok-command.command) run_app (λ rows. if_some_file (run_found rows))
    (map string_bytes c.args.words.now) c.in-Err.fault c.in_ok-command.ensures c.in-Err.ensures.usage

pub returns-in_ok-run-in-Ok-clause-run : goal.returns-in_ok-run-in-Ok-clause-run
returns-in_ok-run-in-Ok-clause-run c =
    let words = map string_bytes c.args.words.now in
    let rows = rows_of (found_of c.in-Ok.matches) in
    let found = takes (app_of c.in_ok-command.command) run_app
    (λ rows. if_some_file (run_found rows)) words rows
    c.in_ok-command.ensures c.in-Ok.ensures.takes c.in-Ok.ensures.rows in
    let flags =
    ap (λ h. run_with h (flag_in (first_of (codes "stats") rows)) rows) (sym c.flag-history.ensures)
    ∙ ap (λ s. run_with c.flag-history.result s rows) (sym c.flag-stats.ensures) in
    subst (Gives run_asked_by c.some_file.result)
    (sym (found ∙ ap if_some_file (flags ∙ sym c.in_ok-run-in-Ok.ensures.ok)))
    c.some_file.ensures.run
