use Rattle.std.proofs.Common.{◌≡◌, ◌++◌, ◌-◌, ap, ◌∙◌, append_assoc, arith}
use Rattle.std.specs.Prelude.{min}
use Rattle.doc_records.specs.Words.{bytes_of}
use Rattle.doc_records.proofs.texts.push_cell.Goals as goal

pub returns : goal.returns
returns c =
    let old = c.args.bytes.now.items in
    let cell = c.args.cell in
    let first = bytes_of (min 7 cell.count) cell.first in
    let second = bytes_of (min 7 (cell.count - 7)) cell.second in
    let third = bytes_of (min 7 (cell.count - 14)) cell.third in
    let all : c.bytes_in.result ≡ min 7 cell.count = omega (arith, c.bytes_in.ensures) in
    let first_read : c.push_bytes.new.bytes.items ≡ old ++ first =
    c.in_ok-push_bytes.ensures.bytes ∙ ap (λ n. old ++ bytes_of n cell.first) all in
    let second_read : c.push_bytes-2.new.bytes.items ≡ old ++ first ++ second =
    c.in_ok-push_bytes-2.ensures.bytes
    ∙ ap (λ bytes. bytes ++ bytes_of c.bytes_in-2.result cell.second) first_read
    ∙ ap (λ n. old ++ first ++ bytes_of n cell.second) c.bytes_in-2.ensures in
    c.in_ok-push_bytes-3.ensures.bytes
    ∙ ap (λ bytes. bytes ++ bytes_of c.bytes_in-3.result cell.third) second_read
    ∙ ap (λ n. old ++ first ++ second ++ bytes_of n cell.third) c.bytes_in-3.ensures
    ∙ append_assoc (old ++ first) second third ∙ append_assoc old first (second ++ third)
