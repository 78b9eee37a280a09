use Rattle.std.proofs.Common.{◌-◌, sym, subst, map, string_bytes, length, take, drop}
use Rattle.command_line.specs.Requests.{Gives, asked_by, request_behind, request_of}
use Rattle.command_line.proofs.Behind.{first_and_behind}
use Rattle.command_line.proofs.reading.read_words.Goals as goal

pub returns-in-len1-up-clause-request : goal.returns-in-len1-up-clause-request
returns-in-len1-up-clause-request c =
    let words = c.args.words.now in
    let behind = take (length words - 1) (drop 1 words) in
    let split = first_and_behind words c.word-item.result c.in-len1-up.len_at_least c.word-item.is in
    subst (λ ws. Gives asked_by c.read_behind.result (request_of (map string_bytes ws))) (sym split)
    (subst (λ w. Gives asked_by c.read_behind.result (request_behind w (map string_bytes behind)))
    c.as_str.ensures.value c.read_behind.ensures.request)
