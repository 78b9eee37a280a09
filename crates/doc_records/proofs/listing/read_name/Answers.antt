use Rattle.std.proofs.Common.{◌≡◌, ◌∙◌, ◌++◌, ap, true, List, ℕ, subst, sym}
use Rattle.cell_words.specs.Term.{part}
use Rattle.doc_tree.specs.Words.{is_name}
use Rattle.doc_records.specs.Pool.{part_term}
use Rattle.doc_records.specs.Shapes.{ask_text}
use Rattle.doc_records.specs.Texts.{IsName, text_of}
use Rattle.doc_records.proofs.Rows.{entry_name, name_cells, name_chain}
use Rattle.doc_records.proofs.Steps.{later_then, none_given, none_owed, place_one, read_none}
use Rattle.doc_records.proofs.Steps.{read_some, room_some, text_fits, text_held, part_told}
use Rattle.doc_records.proofs.listing.read_name.Goals as goal

pub read_part-top-requires-clause-stands : goal.read_part-top-requires-clause-stands
read_part-top-requires-clause-stands g c = c.requires.stands

pub read_part-top-requires-clause-place : goal.read_part-top-requires-clause-place
read_part-top-requires-clause-place g c =
    room_some 4 _ _ c.requires.places

pub push_text-requires : goal.push_text-requires
push_text-requires g c =
    let is : IsName (part_term (g.R.RecordPool.shown c.read_part-top.new.records).term
    c.read_part-top.result) =
    subst IsName (sym c.read_part-top.ensures.part)
    (entry_name _ c.requires.five c.requires.entry) in
    record {
      stands = c.read_part-top.ensures.stands;
      chain = name_chain _ is;
      places = text_fits 4 _ _ _ _ _ c.requires.places
          (place_one c.read_part-top.result _ _ c.read_part-top.ensures.held)
          c.read_part-top.ensures.later.room (name_cells _ is);
    }

pub returns-in_err-push_text : goal.returns-in_err-push_text
returns-in_err-push_text g c =
    record {
      name = none_given _ _ c.from_residual.ensures.0;
      later = later_then c.read_part-top.ensures.later c.push_text.ensures.later;
      held =
          let is : IsName (part_term (g.R.RecordPool.shown c.read_part-top.new.records).term
          c.read_part-top.result) =
          subst IsName (sym c.read_part-top.ensures.part)
          (entry_name _ c.requires.five c.requires.entry) in
          text_held 3 _ _ _ _
          (place_one c.read_part-top.result _ _ c.read_part-top.ensures.held)
          c.push_text.ensures.held (name_cells _ is);
      records = c.push_text.ensures.records ∙ c.read_part-top.ensures.records;
      told = none_owed _ _ c.from_residual.ensures.0;
    }

pub returns-in_err-name : goal.returns-in_err-name
returns-in_err-name g c =
    record {
      name = none_given _ _ c.from_residual-in_err-name.ensures.0;
      later = later_then c.read_part-top.ensures.later c.push_text.ensures.later;
      held =
          let is : IsName (part_term (g.R.RecordPool.shown c.read_part-top.new.records).term
          c.read_part-top.result) =
          subst IsName (sym c.read_part-top.ensures.part)
          (entry_name _ c.requires.five c.requires.entry) in
          text_held 3 _ _ _ _
          (place_one c.read_part-top.result _ _ c.read_part-top.ensures.held)
          c.push_text.ensures.held (name_cells _ is);
      records = c.push_text.ensures.records ∙ c.read_part-top.ensures.records;
      told = none_owed _ _ c.from_residual-in_err-name.ensures.0;
    }

pub returns : goal.returns
returns g c =
    record {
      name =
          let same : c.deref.result.now
          ≡ text_of (part 0 ((g.R.RecordPool.shown c.args.records.now).term c.args.at)) =
          c.deref.ensures.value ∙ c.in_ok-push_text.ensures.bytes
          ∙ ap (λ (old : List ℕ). old
          ++ text_of (part_term (g.R.RecordPool.shown c.read_part-top.new.records).term
          c.read_part-top.result)) c.new-bytes.ensures.items
          ∙ ap text_of c.read_part-top.ensures.part in
          read_some _ _ _ (sym c.in_ok-name.ensures ∙ c.in-Some.is) ∙ same;
      later = later_then c.read_part-top.ensures.later c.push_text.ensures.later;
      held =
          let is : IsName (part_term (g.R.RecordPool.shown c.read_part-top.new.records).term
          c.read_part-top.result) =
          subst IsName (sym c.read_part-top.ensures.part)
          (entry_name _ c.requires.five c.requires.entry) in
          text_held 3 _ _ _ _
          (place_one c.read_part-top.result _ _ c.read_part-top.ensures.held)
          c.push_text.ensures.held (name_cells _ is);
      records = c.push_text.ensures.records ∙ c.read_part-top.ensures.records;
      told = λ shared. part_told ask_text _ _ _ _ _ c.read_part-top.ensures.part
          (c.read_part-top.ensures.told shared)
          (c.in_ok-push_text.ensures.told (c.read_part-top.ensures.shared shared));
    }

pub unreachable-requires : goal.unreachable-requires
unreachable-requires g c =
    let same : c.deref.result.now
    ≡ text_of (part 0 ((g.R.RecordPool.shown c.args.records.now).term c.args.at)) =
    c.deref.ensures.value ∙ c.in_ok-push_text.ensures.bytes
    ∙ ap (λ (old : List ℕ). old
    ++ text_of (part_term (g.R.RecordPool.shown c.read_part-top.new.records).term
    c.read_part-top.result)) c.new-bytes.ensures.items
    ∙ ap text_of c.read_part-top.ensures.part in
    read_none _ _ (sym c.in_ok-name.ensures ∙ c.in-None.is)
    (subst (λ (bytes : List ℕ). is_name bytes ≡ true) (sym same)
    (entry_name _ c.requires.five c.requires.entry).name)
