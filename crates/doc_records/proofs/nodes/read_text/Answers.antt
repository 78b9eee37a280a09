use Rattle.std.proofs.Common.{◌≡◌, ◌∙◌, IfOk, List, ap, subst, sym, true, ℕ}
use Rattle.doc_tree.specs.Words.{is_text}
use Rattle.doc_records.specs.Shapes.{ask_text}
use Rattle.doc_records.specs.Texts.{IsText, text_of}
use Rattle.doc_records.proofs.Fields.{untold}
use Rattle.doc_records.proofs.Spellings.{node_text, one_cell, one_told}
use Rattle.doc_records.proofs.Steps.{later_then, owed, part_told}
use Rattle.doc_records.proofs.nodes.read_text.Goals as goal

pub short_text-requires-clause-text : goal.short_text-requires-clause-text
short_text-requires-clause-text g c =
    let is = subst IsText (sym c.in-Record.ensures.part) (node_text _ c.requires.node) in
    let same =
    one_cell _ _ _ _ _ is c.in-Record.ensures.stands.1 c.read_cell-cell.ensures.count
    c.if-cell-le-CELL.true c.read_cell-cell.ensures.text in
    subst (λ (bytes : List ℕ). is_text bytes ≡ true) (sym same) is.text

pub returns-then-cell-le-CELL-clause-text : goal.returns-then-cell-le-CELL-clause-text
returns-then-cell-le-CELL-clause-text g c =
    let is = subst IsText (sym c.in-Record.ensures.part) (node_text _ c.requires.node) in
    let same =
    one_cell _ _ _ _ _ is c.in-Record.ensures.stands.1 c.read_cell-cell.ensures.count
    c.if-cell-le-CELL.true c.read_cell-cell.ensures.text in
    subst (λ (bytes : List ℕ). IfOk c.short_text.result (λ text. text ≡ bytes))
    (same ∙ ap text_of c.in-Record.ensures.part) c.short_text.ensures

pub returns-then-cell-le-CELL-clause-told : goal.returns-then-cell-le-CELL-clause-told
returns-then-cell-le-CELL-clause-told g c =
    let is = subst IsText (sym c.in-Record.ensures.part) (node_text _ c.requires.node) in
    owed c.short_text.result _
    (λ own.
    part_told ask_text _ _ _ _ _ c.in-Record.ensures.part (c.read_part-top.ensures.told own)
    (one_told _ c.read_cell-cell.result.count c.read_cell-cell.result.first
    c.read_cell-cell.result.second c.read_cell-cell.result.third is
    c.in-Record.ensures.stands.1 c.read_cell-cell.ensures.count c.if-cell-le-CELL.true _ _
    (c.read_cell-cell.ensures.told (c.in-Record.ensures.shared own))))

pub returns-clause-told : goal.returns-clause-told
returns-clause-told g c own =
    let later = later_then c.read_part-top.ensures.later c.read_cell-cell.ensures.later in
    part_told ask_text _ _ _ _ _
    (c.read_cell-cell.ensures.later.same c.in-Record.first c.in-Record.ensures.stands.0
    ∙ c.in-Record.ensures.part)
    (untold _ _ later.marks) (c.in_ok-push_text.ensures.told (c.in-Record.ensures.shared own))
