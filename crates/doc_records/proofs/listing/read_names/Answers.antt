use Rattle.std.proofs.Common.{◌≡◌, ◌∙◌, ◌+◌, ◌-◌, ◌*◌, ◌++◌, ◌≤◌, List, ap, arith, subst, sym, ℕ}
use Rattle.cell_words.specs.Term.{Term}
use Rattle.doc_tree.specs.declared.tree.TheConstants.Tree.{MOST_CHILDREN}
use Rattle.doc_tree.specs.Tree.{names_of}
use Rattle.kids_avl.specs.Entries.{kids_of}
use Rattle.doc_records.specs.declared.bounds.TheConstants.{NAMES_PLACES}
use Rattle.doc_records.specs.Pool.{part_term}
use Rattle.doc_records.specs.Shapes.{ask_names}
use Rattle.doc_records.specs.Trees.{AreEntries, entries_of}
use Rattle.doc_records.proofs.Rows.{node_entries, node_few, node_kids}
use Rattle.doc_records.proofs.Steps.{later_then, none_given, none_owed, part_told, place_one}
use Rattle.doc_records.proofs.Steps.{room_some, row_count}
use Rattle.doc_records.proofs.listing.read_names.Goals as goal

names_fit : (n h0 h1 m0 m1 : ℕ) → n ≤ MOST_CHILDREN → h0 + NAMES_PLACES ≤ m0 → h1 ≤ h0 + 1
    → m1 ≡ m0 → h1 + 6 * n ≤ m1
names_fit n h0 h1 m0 m1 few fits a1 b1 = omega (arith, few, fits, a1, b1)

pub read_part-top-requires-clause-stands : goal.read_part-top-requires-clause-stands
read_part-top-requires-clause-stands g c = c.requires.stands

pub read_part-top-requires-clause-place : goal.read_part-top-requires-clause-place
read_part-top-requires-clause-place g c = room_some (NAMES_PLACES - 1) _ _ c.requires.places

pub push_names-requires-clause-stands : goal.push_names-requires-clause-stands
push_names-requires-clause-stands g c = c.read_part-top.ensures.stands

pub push_names-requires-clause-entries : goal.push_names-requires-clause-entries
push_names-requires-clause-entries g c =
    subst AreEntries (sym c.read_part-top.ensures.part) (node_entries _ c.requires.node.node)

pub push_names-requires-clause-places : goal.push_names-requires-clause-places
push_names-requires-clause-places g c =
    let few : row_count (part_term (g.R.RecordPool.shown c.read_part-top.new.records).term
    c.read_part-top.result) ≤ MOST_CHILDREN =
    rw c.read_part-top.ensures.part (node_few _ c.requires.node) in
    names_fit _ _ _ _ _ few c.requires.places
    (place_one c.read_part-top.result _ _ c.read_part-top.ensures.held)
    c.read_part-top.ensures.later.room

pub returns-in_err-push_names : goal.returns-in_err-push_names
returns-in_err-push_names g c =
    record {
      names = none_given _ _ c.from_residual.ensures.0;
      later = later_then c.read_part-top.ensures.later c.push_names.ensures.later;
      records = c.push_names.ensures.records ∙ c.read_part-top.ensures.records;
      told = none_owed _ _ c.from_residual.ensures.0;
    }

pub returns : goal.returns
returns g c =
    record {
      names =
          let top = part_term (g.R.RecordPool.shown c.read_part-top.new.records).term
          c.read_part-top.result in
          c.in_ok-push_names.ensures.names
          ∙ ap (λ (old : List (List ℕ)). old ++ names_of (kids_of (entries_of top)))
          c.new-names.ensures
          ∙ ap (λ (u : Term). names_of (kids_of (entries_of u))) c.read_part-top.ensures.part
          ∙ sym (ap names_of (node_kids _ c.requires.node.node));
      later = later_then c.read_part-top.ensures.later c.push_names.ensures.later;
      records = c.push_names.ensures.records ∙ c.read_part-top.ensures.records;
      told = λ shared. part_told ask_names _ _ _ _ _ c.read_part-top.ensures.part
          (c.read_part-top.ensures.told shared)
          (c.in_ok-push_names.ensures.told (c.read_part-top.ensures.shared shared));
    }
