use Rattle.std.proofs.Common.{◌∙◌, List, ap, subst, sym, ℕ}
use Rattle.cell_words.specs.Term.{Term}
use Rattle.doc_tree.specs.Tree.{name_cmp}
use Rattle.doc_records.specs.Pool.{part_term}
use Rattle.doc_records.specs.Texts.{IsName, text_of}
use Rattle.doc_records.proofs.Rows.{entry_name, name_cells}
use Rattle.doc_records.proofs.Steps.{later_then, place_one, room_some, text_fits, text_held}
use Rattle.doc_records.proofs.finding.order_by_head.Goals as goal

pub read_part-written-requires-clause-stands : goal.read_part-written-requires-clause-stands
read_part-written-requires-clause-stands g c = c.requires.stands

pub read_part-written-requires-clause-place : goal.read_part-written-requires-clause-place
read_part-written-requires-clause-place g c = room_some 4 _ _ c.requires.places

pub order_name-requires-clause-stands : goal.order_name-requires-clause-stands
order_name-requires-clause-stands g c = c.read_part-written.ensures.stands

pub order_name-requires-clause-written : goal.order_name-requires-clause-written
order_name-requires-clause-written g c =
    subst IsName (sym c.read_part-written.ensures.part)
    (entry_name _ c.requires.five c.requires.entry)

pub order_name-requires-clause-places : goal.order_name-requires-clause-places
order_name-requires-clause-places g c =
    let is : IsName (part_term (g.R.RecordPool.shown c.read_part-written.new.records).term
    c.read_part-written.result) =
    subst IsName (sym c.read_part-written.ensures.part)
    (entry_name _ c.requires.five c.requires.entry) in
    text_fits 4 _ _ _ _ _ c.requires.places
    (place_one c.read_part-written.result _ _ c.read_part-written.ensures.held)
    c.read_part-written.ensures.later.room (name_cells _ is)

pub returns-clause-order : goal.returns-clause-order
returns-clause-order g c =
    let written = part_term (g.R.RecordPool.shown c.read_part-written.new.records).term
    c.read_part-written.result in
    c.order_name.ensures.order
    ∙ ap (λ (name : List ℕ). name_cmp name (text_of written)) c.bytes.ensures.bytes
    ∙ ap (λ (u : Term). name_cmp c.args.name.now (text_of u)) c.read_part-written.ensures.part

pub returns-clause-later : goal.returns-clause-later
returns-clause-later g c = later_then c.read_part-written.ensures.later c.order_name.ensures.later

pub returns-clause-held : goal.returns-clause-held
returns-clause-held g c =
    let is : IsName (part_term (g.R.RecordPool.shown c.read_part-written.new.records).term
    c.read_part-written.result) =
    subst IsName (sym c.read_part-written.ensures.part)
    (entry_name _ c.requires.five c.requires.entry) in
    text_held 3 _ _ _ _
    (place_one c.read_part-written.result _ _ c.read_part-written.ensures.held)
    c.order_name.ensures.held (name_cells _ is)

pub returns-clause-records : goal.returns-clause-records
returns-clause-records g c = c.order_name.ensures.records ∙ c.read_part-written.ensures.records
