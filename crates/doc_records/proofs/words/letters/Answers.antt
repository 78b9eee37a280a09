use Rattle.std.proofs.Common.{◌∙◌, ◌++◌, List, [], ap, ℕ}
use Rattle.doc_records.specs.Words.{bytes_of}
use Rattle.doc_records.proofs.Letters.{seven_bytes}
use Rattle.doc_records.proofs.words.letters.Goals as goal

pub returns : goal.returns
returns c =
    seven_bytes c.args.first _ _ c.to_le_bytes.ensures
    ∙ ap (λ (more : List ℕ). bytes_of 7 c.args.first ++ more)
    (seven_bytes c.args.second _ _ c.to_le_bytes-2.ensures
    ∙ ap (λ (more : List ℕ). bytes_of 7 c.args.second ++ more)
    (seven_bytes c.args.third _ [] c.to_le_bytes-3.ensures))
