use Rattle.std.proofs.Common.{◌≡◌, ◌∙◌, ◌+◌, ◌-◌, ◌*◌, ◌≤◌, ap, arith, subst, sym, ℕ}
use Rattle.cell_words.specs.Term.{Term}
use Rattle.doc_tree.specs.Tree.{child as child_of_name, IsRising}
use Rattle.kids_avl.specs.declared.bounds.TheConstants.{MOST_LEVELS}
use Rattle.kids_avl.specs.Entries.{height_of, kids_of}
use Rattle.doc_records.specs.declared.bounds.TheConstants.{CHILD_PLACES}
use Rattle.doc_records.specs.Pool.{part_term}
use Rattle.doc_records.specs.Trees.{AreEntries, entries_of}
use Rattle.doc_records.proofs.Rows.{node_entries, node_high, node_kids, node_rising}
use Rattle.doc_records.proofs.Steps.{later_then, low_then, place_one, room_some}
use Rattle.doc_records.proofs.finding.find_child.Goals as goal

levels_fit : (n h0 h1 m0 m1 : ℕ) → n ≤ MOST_LEVELS → h0 + CHILD_PLACES ≤ m0 → h1 ≤ h0 + 1
    → m1 ≡ m0 → h1 + 5 * n + 1 ≤ m1
levels_fit n h0 h1 m0 m1 low fits a1 b1 = omega (arith, low, fits, a1, b1)

levels_held : (n h0 h1 h2 : ℕ) → n ≤ MOST_LEVELS → h1 ≤ h0 + 1 → h2 ≤ h1 + 5 * n
    → h2 ≤ h0 + CHILD_PLACES
levels_held n h0 h1 h2 low a1 a2 = omega (arith, low, a1, a2)

pub read_part-top-requires-clause-stands : goal.read_part-top-requires-clause-stands
read_part-top-requires-clause-stands g c = c.requires.stands

pub read_part-top-requires-clause-place : goal.read_part-top-requires-clause-place
read_part-top-requires-clause-place g c = room_some (CHILD_PLACES - 1) _ _ c.requires.places

pub find_under-requires-clause-stands : goal.find_under-requires-clause-stands
find_under-requires-clause-stands g c = c.read_part-top.ensures.stands

pub find_under-requires-clause-entries : goal.find_under-requires-clause-entries
find_under-requires-clause-entries g c =
    subst AreEntries (sym c.read_part-top.ensures.part) (node_entries _ c.requires.node.node)

pub find_under-requires-clause-rising : goal.find_under-requires-clause-rising
find_under-requires-clause-rising g c =
    subst (λ (u : Term). IsRising (kids_of (entries_of u))) (sym c.read_part-top.ensures.part)
    (node_rising _ c.requires.node)

pub find_under-requires-clause-places : goal.find_under-requires-clause-places
find_under-requires-clause-places g c =
    let top = part_term (g.R.RecordPool.shown c.read_part-top.new.records).term
    c.read_part-top.result in
    let low : height_of (entries_of top) ≤ MOST_LEVELS =
    rw c.read_part-top.ensures.part (node_high _ c.requires.node) in
    levels_fit _ _ _ _ _ low c.requires.places
    (place_one c.read_part-top.result _ _ c.read_part-top.ensures.held)
    c.read_part-top.ensures.later.room

pub returns : goal.returns
returns g c =
    record {
      child =
          let name = c.args.name.now in
          c.find_under.ensures.child
          ∙ ap (λ (u : Term). child_of_name name (kids_of
          (entries_of u))) c.read_part-top.ensures.part
          ∙ sym (ap (child_of_name name) (node_kids _ c.requires.node.node));
      stands = c.find_under.ensures.stands;
      shared = λ own. c.find_under.ensures.shared (c.read_part-top.ensures.shared own);
      on = λ places low on.
          c.find_under.ensures.on places (low_then c.read_part-top.ensures.later low)
          (c.read_part-top.ensures.on places low on);
      later = later_then c.read_part-top.ensures.later c.find_under.ensures.later;
      held =
          let top = part_term (g.R.RecordPool.shown c.read_part-top.new.records).term
          c.read_part-top.result in
          let low : height_of (entries_of top) ≤ MOST_LEVELS =
          rw c.read_part-top.ensures.part (node_high _ c.requires.node) in
          levels_held _ _ _ _ low
          (place_one c.read_part-top.result _ _ c.read_part-top.ensures.held)
          c.find_under.ensures.held;
      records = c.find_under.ensures.records ∙ c.read_part-top.ensures.records;
    }
