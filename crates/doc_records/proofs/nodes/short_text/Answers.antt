use Rattle.std.proofs.Common.{◌≡◌, ◌∙◌, List, ap, subst, sym, take, true, ℕ}
use Rattle.doc_records.specs.Texts.{bytes_here}
use Rattle.doc_tree.specs.Words.{is_text}
use Rattle.doc_records.proofs.Letters.{cell_taken}
use Rattle.doc_records.proofs.Steps.{read_none, read_some}
use Rattle.doc_records.proofs.nodes.short_text.Goals as goal

pub unreachable-requires : goal.unreachable-requires
unreachable-requires c =
    let cell = c.args.cell in
    let same : take cell.count c.letters-letters.result
    ≡ bytes_here cell.count cell.first cell.second cell.third =
    ap (λ (bytes : List ℕ). take cell.count bytes) c.letters-letters.ensures
    ∙ cell_taken cell.count cell.first cell.second cell.third in
    read_none _ _ (sym c.in_ok-text.ensures ∙ c.in-None.is)
    (subst (λ (bytes : List ℕ). is_text bytes ≡ true) (sym same) c.requires.text)

pub returns : goal.returns
returns c =
    let cell = c.args.cell in
    let same : take cell.count c.letters-letters.result
    ≡ bytes_here cell.count cell.first cell.second cell.third =
    ap (λ (bytes : List ℕ). take cell.count bytes) c.letters-letters.ensures
    ∙ cell_taken cell.count cell.first cell.second cell.third in
    read_some _ _ _ (sym c.in_ok-text.ensures ∙ c.in-Some.is) ∙ same
