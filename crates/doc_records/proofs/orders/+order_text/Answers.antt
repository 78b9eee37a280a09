use Rattle.std.proofs.Common.{◌≡◌, ◌∙◌, ap, subst, sym}
use Rattle.cell_words.specs.Term.{Term, part}
use Rattle.doc_tree.specs.Tree.{name_cmp}
use Rattle.doc_records.specs.Pool.{part_term}
use Rattle.doc_records.specs.Shapes.{IsChain, cells_of}
use Rattle.doc_records.specs.Texts.{text_of}
use Rattle.doc_records.specs.declared.orders.Compared.{Compared}
use Rattle.doc_records.specs.Orders.{order_then}
use Rattle.doc_records.proofs.Cells.{cell_held, cell_place, cells_then, next_fits, next_held}
use Rattle.doc_records.proofs.Cells.{next_less, next_place, place_cell}
use Rattle.doc_records.proofs.Chains.{cells_next, chain_next}
use Rattle.doc_records.proofs.Steps.{field_same, later_then, place_one}
use Rattle.doc_records.proofs.orders.+order_text.Goals as goal

pub read_cell-cell-requires : goal.read_cell-cell-requires
read_cell-cell-requires g t c =
    let at = c.in-Record.at in
    let is = rw c.in-Record.is at c.requires.stands in
    record {
      stands = is.0;
      five = is.1;
      place =
          let s0 = g.R.RecordPool.shown c.args.records.now in
          let t0 = s0.term at in
          let places = rw c.in-Record.is at c.requires.places in
          cell_place _ _ _ _ (cells_next t0 is.1) places;
      chain = rw c.in-Record.is at c.requires.chain;
    }

pub read_part-next-requires-clause-stands : goal.read_part-next-requires-clause-stands
read_part-next-requires-clause-stands g t c =
    let is = rw c.in-Record.is at c.requires.stands in
    c.read_cell-cell.ensures.later.now c.in-Record.at is.0

pub read_part-next-requires-clause-place : goal.read_part-next-requires-clause-place
read_part-next-requires-clause-place g t c =
    let s0 = g.R.RecordPool.shown c.args.records.now in
    let at = c.in-Record.at in
    let t0 = s0.term at in
    let is = rw c.in-Record.is at c.requires.stands in
    let places = rw c.in-Record.is at c.requires.places in
    next_place _ _ _ _ _ _ (cells_next t0 is.1) places c.read_cell-cell.ensures.held
    c.read_cell-cell.ensures.later.room

pub order_text-requires : goal.order_text-requires
order_text-requires g t c κs within =
    let s0 = g.R.RecordPool.shown c.args.records.now in
    let at = c.in-Record.at in
    let t0 = s0.term at in
    let is = rw c.in-Record.is at c.requires.stands in
    let chain = rw c.in-Record.is at c.requires.chain in
    let places = rw c.in-Record.is at c.requires.places in
    let s2 = g.R.RecordPool.shown c.read_part-next.new.records in
    let next = c.read_part-next.result in
    let same : part_term s2.term next ≡ part 4 t0 =
    field_same 4 s0 _ s2 at next c.read_cell-cell.ensures.later is.0
    c.read_part-next.ensures.part in
    let whole = cells_then t0 _ is.1 same in
    let chain_in : IsChain (part_term s2.term next) =
    subst IsChain (sym same) (chain_next t0 is.1 chain) in
    let fits =
    next_fits _ _ _ _ _ _ _ _ whole places c.read_cell-cell.ensures.held
    c.read_cell-cell.ensures.later.room (place_one next _ _ c.read_part-next.ensures.held)
    c.read_part-next.ensures.later.room in
    let all : cells_of (part_term s0.term c.args.top) ≡ t = c.decreases in (
      next_less _ _ _ whole (rw c.in-Record.is at all),
      (
        within.0,
        (
          within.1,
          (c.read_part-next.ensures.stands, (chain_in, fits)),
        ),
      ),
    )

pub returns-in-Decided-clause-order : goal.returns-in-Decided-clause-order
returns-in-Decided-clause-order g t c =
    let s0 = g.R.RecordPool.shown c.args.records.now in
    let at = c.in-Record.at in
    let t0 = s0.term at in
    let is = rw c.in-Record.is at c.requires.stands in
    let more = text_of (part 4 t0) in
    rw c.in-Record.is
    (sym (ap (name_cmp c.args.name.now) c.read_cell-cell.ensures.text ∙ c.order_cell.ensures more
    ∙ ap (λ (known : Compared). order_then known more) c.in-Decided.is))

pub returns-in-Decided-clause-later : goal.returns-in-Decided-clause-later
returns-in-Decided-clause-later g t c = c.read_cell-cell.ensures.later

pub returns-in-Decided-clause-held : goal.returns-in-Decided-clause-held
returns-in-Decided-clause-held g t c = cell_held _ _ _ c.read_cell-cell.ensures.held

pub returns-in-Decided-clause-records : goal.returns-in-Decided-clause-records
returns-in-Decided-clause-records g t c = c.read_cell-cell.ensures.records

pub returns-in-Same : goal.returns-in-Same
returns-in-Same g t c =
    let s0 = g.R.RecordPool.shown c.args.records.now in
    let at = c.in-Record.at in
    let t0 = s0.term at in
    let is = rw c.in-Record.is at c.requires.stands in
    let s2 = g.R.RecordPool.shown c.read_part-next.new.records in
    let next = c.read_part-next.result in
    let same : part_term s2.term next ≡ part 4 t0 =
    field_same 4 s0 _ s2 at next c.read_cell-cell.ensures.later is.0
    c.read_part-next.ensures.part in
    record {
      order =
          let more = text_of (part 4 t0) in
          rw c.in-Record.is
          (c.order_text.ensures.order
          ∙ ap (λ (u : Term). name_cmp c.in-Same.rest.now (text_of u)) same
          ∙ sym (ap (name_cmp c.args.name.now) c.read_cell-cell.ensures.text
          ∙ c.order_cell.ensures more
          ∙ ap (λ (known : Compared). order_then known more) c.in-Same.is));
      later = later_then (later_then c.read_cell-cell.ensures.later c.read_part-next.ensures.later)
          c.order_text.ensures.later;
      held = rw c.in-Record.is
          (next_held _ _ _ _ _ _ _ (cells_then t0 _ is.1 same) c.read_cell-cell.ensures.held
          c.read_part-next.ensures.held (place_one next _ _ c.read_part-next.ensures.held)
          (place_cell s2 next c.read_part-next.ensures.stands) c.order_text.ensures.held);
      records = c.order_text.ensures.records ∙ c.read_part-next.ensures.records
          ∙ c.read_cell-cell.ensures.records;
    }
