use Rattle.std.proofs.Common.{◌≡◌, ◌<◌, ◌∙◌, None, ap, arith, refl, subst, sym, rules, tests}
use Rattle.cell_words.specs.Term.{Term}
use Rattle.doc_tree.specs.declared.tree.TheConstants.Tree.{MOST_CHILDREN}
use Rattle.doc_tree.specs.Tree.{DocTree, Kids, child as child_of_name, height, height_below}
use Rattle.doc_tree.specs.Tree.{kid_count, put_child}
use Rattle.doc_tree.proofs.Sizes.{put_height}
use Rattle.doc_records.specs.Texts.{IsText, text_of}
use Rattle.doc_records.specs.Trees.{tree_of}
use Rattle.doc_edits.specs.Tops.{row_of, tree_under}
use Rattle.doc_edits.proofs.Along.{top_same, top_still}
use Rattle.doc_edits.proofs.Changed.{put_changes}
use Rattle.doc_edits.proofs.Makings.{put_made, top_few, top_low}
use Rattle.doc_edits.proofs.Standing.{later_then, node_still, part_same, part_still, some_node}
use Rattle.doc_edits.proofs.nodes.with_child.Goals as goal

pub change_of-change-requires-clause-come : goal.change_of-change-requires-clause-come
change_of-change-requires-clause-come g c = some_node _ _ _ refl c.requires.child

pub open-node-requires-clause-top : goal.open-node-requires-clause-top
open-node-requires-clause-top g c =
    top_still _ _ c.args.at c.change_of-change.ensures.later c.requires.top

pub with_entry-entries-requires-clause-child : goal.with_entry-entries-requires-clause-child
with_entry-entries-requires-clause-child g c =
    node_still _ _ c.args.child c.open-node.ensures.later
    (node_still _ _ c.args.child c.change_of-change.ensures.later c.requires.child)

pub with_entry-entries-requires-clause-room : goal.with_entry-entries-requires-clause-room
with_entry-entries-requires-clause-room g c =
    let kids = c.open-node.ensures.kids
    ∙ ap (λ (t : DocTree). t.kids)
    (top_same _ _ c.args.at c.change_of-change.ensures.later c.requires.top) in
    subst (λ (k : Kids). child_of_name c.args.name.now k ≡ None
    → kid_count k < MOST_CHILDREN) (sym kids)
    c.requires.room

pub make_node-requires : goal.make_node-requires
make_node-requires g c =
    let s0 = g.R.RecordPool.shown c.args.records.now in
    let s2 = g.R.RecordPool.shown c.open-node.new.records in
    let child = c.args.child in
    let first = c.change_of-change.ensures.later in
    let stood = first.now child c.requires.child.stands in
    let same = c.open-node.ensures.later.same child stood
    ∙ first.same child c.requires.child.stands in
    record {
      written = part_still _ _ c.open-node.result.text c.with_entry-entries.ensures.later
          c.open-node.ensures.written;
      is_text = subst IsText
          (sym (part_same _ _ c.open-node.result.text c.with_entry-entries.ensures.later
          c.open-node.ensures.written)) c.open-node.ensures.is_text;
      row = search (arith, rules, tests);
      change =
          let s1 = g.R.RecordPool.shown c.change_of-change.new.records in
          let n = c.args.name.now in
          let kids = row_of s2 c.open-node.result.entries in
          put_changes c.change_of-change.result n (tree_of (s0.term child))
          (tree_under s0 c.args.at) _ _
          kids _ c.change_of-change.ensures.change c.requires.there refl
          (c.open-node.ensures.kids
          ∙ ap (λ (t : DocTree). t.kids) (top_same s0 s1 c.args.at first c.requires.top))
          (c.with_entry-entries.ensures.kids ∙ ap (λ u. put_child n (tree_of u) kids) same)
          (omega (arith, top_few s0 c.args.at c.requires.top, c.requires.few));
      low =
          let kids = c.open-node.ensures.kids
          ∙ ap (λ (t : DocTree). t.kids) (top_same _ _ c.args.at first c.requires.top) in
          omega (
            arith,
            ap height_below c.with_entry-entries.ensures.kids,
            put_height c.args.name.now (tree_of (s2.term child))
                (row_of s2 c.open-node.result.entries),
            ap (λ (u : Term). height (tree_of u)) same,
            ap height_below kids,
            top_low s0 c.args.at c.requires.top,
            c.requires.low,
          );
      places = search (arith, rules, tests);
      records = search (arith, rules, tests);
    }

pub returns-clause-tree : goal.returns-clause-tree
returns-clause-tree g c =
    let s0 = g.R.RecordPool.shown c.args.records.now in
    let s2 = g.R.RecordPool.shown c.open-node.new.records in
    let n = c.args.name.now in
    let child = c.args.child in
    let first = c.change_of-change.ensures.later in
    let stood = first.now child c.requires.child.stands in
    let same = c.open-node.ensures.later.same child stood
    ∙ first.same child c.requires.child.stands in
    let top = top_same _ _ c.args.at first c.requires.top in
    let kids = c.open-node.ensures.kids ∙ ap (λ (t : DocTree). t.kids) top in
    put_made _ _ (tree_of (s0.term child)) n _ _ c.make_node.ensures.tree
    (ap text_of (part_same _ _ c.open-node.result.text c.with_entry-entries.ensures.later
    c.open-node.ensures.written) ∙ c.open-node.ensures.text ∙ ap (λ (t : DocTree). t.text) top)
    (c.with_entry-entries.ensures.kids
    ∙ ap (λ (u : Term). put_child n (tree_of u) (row_of s2 c.open-node.result.entries)) same
    ∙ ap (put_child n (tree_of (s0.term child))) kids)

pub returns-clause-later : goal.returns-clause-later
returns-clause-later g c =
    later_then (later_then c.change_of-change.ensures.later c.open-node.ensures.later)
    (later_then c.with_entry-entries.ensures.later c.make_node.ensures.later)
