use Rattle.std.proofs.Common.{ap, ◌∙◌, refl, arith, Some, subst, sym, rules, tests}
use Rattle.doc_tree.specs.Edits.{delete_child}
use Rattle.doc_tree.specs.Tree.{DocTree, height_below}
use Rattle.doc_tree.proofs.Sizes.{delete_lower}
use Rattle.doc_records.specs.Texts.{IsText, text_of}
use Rattle.doc_records.specs.Trees.{tree_of}
use Rattle.doc_edits.specs.Tops.{row_of}
use Rattle.doc_edits.proofs.Along.{top_same, top_still}
use Rattle.doc_edits.proofs.Changed.{delete_changes}
use Rattle.doc_edits.proofs.Makings.{delete_made}
use Rattle.doc_edits.proofs.Standing.{later_then, part_same, part_still, some_node}
use Rattle.doc_edits.proofs.nodes.without_child.Goals as goal

pub change_of-change-requires-clause-gone : goal.change_of-change-requires-clause-gone
change_of-change-requires-clause-gone g c = some_node _ _ _ refl c.requires.was

pub open-node-requires-clause-top : goal.open-node-requires-clause-top
open-node-requires-clause-top g c =
    top_still _ _ (Some c.args.at) c.change_of-change.ensures.later c.requires.node

pub make_node-requires : goal.make_node-requires
make_node-requires g c =
    let s2 = g.R.RecordPool.shown c.open-node.new.records in
    let first = c.change_of-change.ensures.later in
    record {
      written = part_still _ _ c.open-node.result.text c.without_entry-entries.ensures.later
          c.open-node.ensures.written;
      is_text = subst IsText
          (sym (part_same _ _ c.open-node.result.text c.without_entry-entries.ensures.later
          c.open-node.ensures.written)) c.open-node.ensures.is_text;
      row = search (arith, rules, tests);
      change =
          let s0 = g.R.RecordPool.shown c.args.records.now in
          let s1 = g.R.RecordPool.shown c.change_of-change.new.records in
          let few = c.requires.node.node.lawful.few in
          delete_changes c.change_of-change.result c.args.name.now (tree_of (s0.term c.args.at)) _ _
          (row_of s2 c.open-node.result.entries) _ c.change_of-change.ensures.change
          c.requires.there
          refl
          (c.open-node.ensures.kids
          ∙ ap (λ (t : DocTree). t.kids) (top_same s0 s1 (Some c.args.at) first c.requires.node))
          c.without_entry-entries.ensures.kids (omega (arith, few));
      low =
          let kids = c.open-node.ensures.kids
          ∙ ap (λ (t : DocTree). t.kids) (top_same _ _ (Some c.args.at) first c.requires.node) in
          omega (
            arith,
            ap height_below c.without_entry-entries.ensures.kids,
            delete_lower c.args.name.now (row_of s2 c.open-node.result.entries),
            ap height_below kids,
            c.requires.node.node.lawful.low,
          );
      places = search (arith, rules, tests);
      records = search (arith, rules, tests);
    }

pub returns-clause-tree : goal.returns-clause-tree
returns-clause-tree g c =
    let n = c.args.name.now in
    let top = top_same _ _ (Some c.args.at) c.change_of-change.ensures.later c.requires.node in
    let kids = c.open-node.ensures.kids ∙ ap (λ (t : DocTree). t.kids) top in
    delete_made _ _ n _ _ c.make_node.ensures.tree
    (ap text_of (part_same _ _ c.open-node.result.text c.without_entry-entries.ensures.later
    c.open-node.ensures.written) ∙ c.open-node.ensures.text ∙ ap (λ (t : DocTree). t.text) top)
    (c.without_entry-entries.ensures.kids ∙ ap (delete_child n) kids)

pub returns-clause-later : goal.returns-clause-later
returns-clause-later g c =
    later_then (later_then c.change_of-change.ensures.later c.open-node.ensures.later)
    (later_then c.without_entry-entries.ensures.later c.make_node.ensures.later)
