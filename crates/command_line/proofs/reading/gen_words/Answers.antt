use Rattle.std.proofs.Common.{◌∙◌, sym, map, string_bytes}
use Rattle.clap.specs.Words.{app_of, found_of, rows_of}
use Rattle.command_line.specs.Requests.{gen_found}
use Rattle.command_line.specs.declared.request.GenWords.{GenWords}
use Rattle.command_line.specs.Commands.{gen_app}
use Rattle.command_line.proofs.Taken.{as_it_is, asked_for, refuses, takes}
use Rattle.command_line.proofs.reading.gen_words.Goals as goal

pub returns-in-Err-clause-made : goal.returns-in-Err-clause-made
returns-in-Err-clause-made c =
    refuses (λ (made : GenWords). made) (app_of c.in_ok-command.command) gen_app gen_found
    (map string_bytes c.args.words.now) c.in-Err.fault c.in_ok-command.ensures c.in-Err.ensures.usage

pub returns-in-Ok-clause-made : goal.returns-in-Ok-clause-made
returns-in-Ok-clause-made c =
    let words = map string_bytes c.args.words.now in
    let rows = rows_of (found_of c.in-Ok.matches) in
    let found = takes (app_of c.in_ok-command.command) gen_app gen_found words rows
    c.in_ok-command.ensures c.in-Ok.ensures.takes c.in-Ok.ensures.rows in
    asked_for (λ (made : GenWords). made) c.gen_in.result c.ok_or.result _
    (found ∙ sym c.gen_in.ensures.made ∙ as_it_is c.gen_in.result) c.ok_or.ensures.value
