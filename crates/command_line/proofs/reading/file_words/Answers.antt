use Rattle.std.proofs.Common.{◌∙◌, codes, sym, map, string_bytes, ℕ, List}
use Rattle.clap.specs.Words.{app_of, first_of, found_of, rows_of}
use Rattle.std.specs.Borrow.{Bor}
use Rattle.command_line.specs.Commands.{file_app}
use Rattle.command_line.proofs.Taken.{asked_for, refuses, takes}
use Rattle.command_line.proofs.reading.file_words.Goals as goal

pub returns-in-Err : goal.returns-in-Err
returns-in-Err c =
    refuses (λ (name : Bor (List ℕ)). name.now) (app_of c.in_ok-command.command)
    (file_app c.args.subcommand.now) (λ rows. first_of (codes "file") rows)
    (map string_bytes c.args.words.now) c.in-Err.fault c.in_ok-command.ensures
    c.in-Err.ensures.usage

pub returns-in-Ok : goal.returns-in-Ok
returns-in-Ok c =
    let words = map string_bytes c.args.words.now in
    let rows = rows_of (found_of c.in-Ok.matches) in
    let found =
    takes (app_of c.in_ok-command.command) (file_app c.args.subcommand.now)
    (λ rows. first_of (codes "file") rows) words
    rows c.in_ok-command.ensures c.in-Ok.ensures.takes c.in-Ok.ensures.rows in
    asked_for (λ (name : Bor (List ℕ)). name.now) c.name.result c.ok_or.result _
    (found ∙ sym c.name.ensures) c.ok_or.ensures.value
