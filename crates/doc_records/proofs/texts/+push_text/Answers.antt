use Rattle.std.proofs.Common.{◌≡◌, ◌∙◌, ◌++◌, List, ap}
use Rattle.std.proofs.Common.{append_assoc, subst, sym, ℕ}
use Rattle.cell_words.specs.Term.{Term, part, IsFive}
use Rattle.trails.specs.Marks.{Mark}
use Rattle.trails.specs.Telling.{Due, Tells}
use Rattle.doc_records.specs.Pool.{part_term}
use Rattle.doc_records.specs.Shapes.{IsChain, ask_cell, ask_text, cells_of}
use Rattle.doc_records.specs.Texts.{bytes_here, text_of}
use Rattle.doc_records.proofs.Cells.{cell_held, cell_place, cells_then, next_fits, next_held}
use Rattle.doc_records.proofs.Cells.{next_less, next_place, place_cell}
use Rattle.doc_records.proofs.Chains.{ask_next, cells_next, chain_next}
use Rattle.doc_records.proofs.Steps.{field_same, later_then, none_owed, place_one}
use Rattle.doc_records.proofs.texts.+push_text.Goals as goal

-- a cell, and the text that comes after it
text_read : (t u : Term) (here old one new : List ℕ)
    → text_of t ≡ here ++ text_of (part 4 t) → u ≡ part 4 t
    → one ≡ old ++ here → new ≡ one ++ text_of u → new ≡ old ++ text_of t
text_read t u here old one new whole next first others =
    others
    ∙ rw (first, next)
    (append_assoc old here (text_of (part 4 t)) ∙ ap (λ bytes. old ++ bytes) (sym whole))

text_told : (t u : Term) (a b c d : List Mark) → IsFive t → u ≡ part 4 t
    → Tells (ask_cell t) a b → Tells (λ rest. rest) b c → Tells (ask_text u) c d
    → Tells (ask_text t) a d
text_told t u a b c d is next first none others all rest due =
    let asked : Due all (ask_cell t (ask_text u rest)) a =
    rw next (rw (sym (ask_next t rest is)) due) in
    others all rest (none all (ask_text u rest) (first all (ask_text u rest) asked))

pub read_cell-cell-requires : goal.read_cell-cell-requires
read_cell-cell-requires g t c =
    let at = c.in-Record.at in
    let is = rw c.in-Record.is at c.requires.stands in
    record {
      stands = is.0;
      five = is.1;
      place =
          let s0 = g.R.RecordPool.shown c.args.records.now in
          let t0 = s0.term at in
          let places = rw c.in-Record.is at c.requires.places in
          cell_place _ _ _ _ (cells_next t0 is.1) places;
      chain = rw c.in-Record.is at c.requires.chain;
    }

pub returns-in_err-push_cell : goal.returns-in_err-push_cell
returns-in_err-push_cell g t c =
    record {
      bytes = none_owed _ _ c.from_residual.ensures.0;
      later = c.read_cell-cell.ensures.later;
      held = cell_held _ _ _ c.read_cell-cell.ensures.held;
      records = c.read_cell-cell.ensures.records;
      told = none_owed _ _ c.from_residual.ensures.0;
    }

pub read_part-next-requires-clause-stands : goal.read_part-next-requires-clause-stands
read_part-next-requires-clause-stands g t c =
    let is = rw c.in-Record.is at c.requires.stands in
    c.read_cell-cell.ensures.later.now c.in-Record.at is.0

pub read_part-next-requires-clause-place : goal.read_part-next-requires-clause-place
read_part-next-requires-clause-place g t c =
    let s0 = g.R.RecordPool.shown c.args.records.now in
    let at = c.in-Record.at in
    let t0 = s0.term at in
    let is = rw c.in-Record.is at c.requires.stands in
    let places = rw c.in-Record.is at c.requires.places in
    next_place _ _ _ _ _ _ (cells_next t0 is.1) places c.read_cell-cell.ensures.held
    c.read_cell-cell.ensures.later.room

pub push_text-requires : goal.push_text-requires
push_text-requires g t c κs within =
    let s0 = g.R.RecordPool.shown c.args.records.now in
    let at = c.in-Record.at in
    let t0 = s0.term at in
    let is = rw c.in-Record.is at c.requires.stands in
    let chain = rw c.in-Record.is at c.requires.chain in
    let places = rw c.in-Record.is at c.requires.places in
    let s2 = g.R.RecordPool.shown c.read_part-next.new.records in
    let next = c.read_part-next.result in
    let same : part_term s2.term next ≡ part 4 t0 =
    field_same 4 s0 _ s2 at next c.read_cell-cell.ensures.later is.0
    c.read_part-next.ensures.part in
    let whole = cells_then t0 _ is.1 same in
    let chain_in : IsChain (part_term s2.term next) =
    subst IsChain (sym same) (chain_next t0 is.1 chain) in
    let fits =
    next_fits _ _ _ _ _ _ _ _ whole places c.read_cell-cell.ensures.held
    c.read_cell-cell.ensures.later.room (place_one next _ _ c.read_part-next.ensures.held)
    c.read_part-next.ensures.later.room in
    let all : cells_of (part_term s0.term c.args.top) ≡ t = c.decreases in (
      next_less _ _ _ whole (rw c.in-Record.is at all),
      (
        within.0,
        (
          within.1,
          (c.read_part-next.ensures.stands, (chain_in, fits)),
        ),
      ),
    )

pub returns-in_err-push_text : goal.returns-in_err-push_text
returns-in_err-push_text g t c =
    record {
      bytes = none_owed _ _ c.from_residual-in_err-push_text.ensures.0;
      later = later_then (later_then c.read_cell-cell.ensures.later c.read_part-next.ensures.later)
          c.push_text.ensures.later;
      held =
          let s0 = g.R.RecordPool.shown c.args.records.now in
          let at = c.in-Record.at in
          let t0 = s0.term at in
          let is = rw c.in-Record.is at c.requires.stands in
          let s2 = g.R.RecordPool.shown c.read_part-next.new.records in
          let next = c.read_part-next.result in
          let same : part_term s2.term next ≡ part 4 t0 =
          field_same 4 s0 _ s2 at next c.read_cell-cell.ensures.later is.0
          c.read_part-next.ensures.part in
          rw c.in-Record.is
          (next_held _ _ _ _ _ _ _ (cells_then t0 _ is.1 same) c.read_cell-cell.ensures.held
          c.read_part-next.ensures.held (place_one next _ _ c.read_part-next.ensures.held)
          (place_cell s2 next c.read_part-next.ensures.stands) c.push_text.ensures.held);
      records = c.push_text.ensures.records ∙ c.read_part-next.ensures.records
          ∙ c.read_cell-cell.ensures.records;
      told = none_owed _ _ c.from_residual-in_err-push_text.ensures.0;
    }

pub returns : goal.returns
returns g t c =
    let s0 = g.R.RecordPool.shown c.args.records.now in
    let at = c.in-Record.at in
    let t0 = s0.term at in
    let is = rw c.in-Record.is at c.requires.stands in
    let s2 = g.R.RecordPool.shown c.read_part-next.new.records in
    let next = c.read_part-next.result in
    let same : part_term s2.term next ≡ part 4 t0 =
    field_same 4 s0 _ s2 at next c.read_cell-cell.ensures.later is.0
    c.read_part-next.ensures.part in
    record {
      bytes =
          let cell = c.read_cell-cell.result in
          rw c.in-Record.is
          (text_read t0 _ (bytes_here cell.count cell.first cell.second cell.third)
          c.args.bytes.now.items c.push_cell.new.bytes.items _ c.read_cell-cell.ensures.text same
          c.in_ok-push_cell.ensures c.in_ok-push_text.ensures.bytes);
      later = later_then (later_then c.read_cell-cell.ensures.later c.read_part-next.ensures.later)
          c.push_text.ensures.later;
      held = rw c.in-Record.is
          (next_held _ _ _ _ _ _ _ (cells_then t0 _ is.1 same) c.read_cell-cell.ensures.held
          c.read_part-next.ensures.held (place_one next _ _ c.read_part-next.ensures.held)
          (place_cell s2 next c.read_part-next.ensures.stands) c.push_text.ensures.held);
      records = c.push_text.ensures.records ∙ c.read_part-next.ensures.records
          ∙ c.read_cell-cell.ensures.records;
      told =
          λ shared.
          let own = rw c.in-Record.is at shared in
          rw c.in-Record.is
          (text_told _ _ _ _ _ _ is.1 same (c.read_cell-cell.ensures.told own)
          (c.read_part-next.ensures.told own)
          (c.in_ok-push_text.ensures.told (c.read_part-next.ensures.shared own)));
    }
