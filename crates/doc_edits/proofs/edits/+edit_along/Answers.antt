use Rattle.std.proofs.Common.{◌≡◌, ◌∙◌, ◌<◌, Err, None, ap, arith, length, refl, rules, subst, sym}
use Rattle.std.proofs.Common.{tests}
use Rattle.doc_records.specs.Trees.{tree_of}
use Rattle.doc_tree.specs.declared.tree.TheConstants.Tree.{MOST_CHILDREN}
use Rattle.doc_tree.specs.Edits.{edit_along}
use Rattle.doc_tree.specs.Tree.{DocTree, child as child_of_name, kid_count}
use Rattle.doc_edits.specs.Ends.{made_at}
use Rattle.doc_edits.specs.Tops.{IsWithin, tree_under}
use Rattle.doc_edits.proofs.Along.{along_below, along_done, along_stop, begun_room, child_same}
use Rattle.doc_edits.proofs.Along.{end_still, made_same, rest_less, top_nodes, top_same}
use Rattle.doc_edits.proofs.Along.{top_still, within_made, within_step}
use Rattle.doc_edits.proofs.Standing.{later_then, ok_node}
use Rattle.doc_edits.proofs.edits.+edit_along.Goals as goal

pub returns-in_err-edited : goal.returns-in_err-edited
returns-in_err-edited g t c =
    record {
      tree =
          let s0 = g.R.RecordPool.shown c.args.records.now in
          let s1 = g.R.RecordPool.shown c.begin.new.records in
          let fault = c.in_err-edited.field-0.0 in
          let refused : Err fault
          ≡ edit_along (made_at s0 c.args.end) c.args.names.now (tree_under s0 c.args.at) =
          along_below (made_at s0 c.args.end) (made_at s1 c.args.end) c.args.names.now
          c.name-item.result (tree_under s0 c.args.at) (tree_under s1 c.in_ok-child.child) fault
          c.in-len1-up.len_at_least c.name-item.is c.in_ok-child.ensures.begun
          (made_same s0 s1 c.args.end c.begin.ensures.later c.requires.end)
          c.in_err-edited.ensures.tree in
          search (rules, refused);
      node = search (arith, rules, tests);
      within = search (arith, rules, tests);
      later = later_then c.begin.ensures.later c.edit_along.ensures.later;
      held = omega (
        arith,
        rest_less c.args.names.now c.in-len1-up.len_at_least,
        c.begin.ensures.held,
        c.edit_along.ensures.held,
      );
      records = omega (
        arith,
        rest_less c.args.names.now c.in-len1-up.len_at_least,
        c.begin.ensures.records,
        c.edit_along.ensures.records,
      );
    }

pub returns : goal.returns
returns g t c =
    record {
      tree =
          let s0 = g.R.RecordPool.shown c.args.records.now in
          let s1 = g.R.RecordPool.shown c.begin.new.records in
          let s2 = g.R.RecordPool.shown c.edit_along.new.records in
          let at = c.args.at in
          let first = c.begin.ensures.later in
          let kept =
          top_same s1 s2 at c.edit_along.ensures.later (top_still s0 s1 at first c.requires.top)
          ∙ top_same s0 s1 at first c.requires.top in
          along_done _ _ c.args.names.now _ _ _ _ _ _ c.in-len1-up.len_at_least c.name-item.is
          c.in_ok-child.ensures.begun (made_same s0 s1 c.args.end first c.requires.end)
          c.in_ok-edited.ensures.tree kept c.with_child.ensures.tree;
      node = ok_node _ _ _ refl c.with_child.ensures.node;
      within = λ x e.
          let s0 = g.R.RecordPool.shown c.args.records.now in
          let s1 = g.R.RecordPool.shown c.begin.new.records in
          let s2 = g.R.RecordPool.shown c.edit_along.new.records in
          let s3 = g.R.RecordPool.shown c.with_child.new.records in
          let at = c.args.at in
          let top = top_still s1 s2 at c.edit_along.ensures.later
          (top_still s0 s1 at c.begin.ensures.later c.requires.top) in
          let within =
          within_step s2 at _ _ _ (length c.args.names.now) top
          (c.in_ok-edited.ensures.within c.in_ok-edited.edited refl)
          (rest_less c.args.names.now c.in-len1-up.len_at_least) in
          let same : c.with_child.result ≡ x = cc in
          subst (λ a. IsWithin (length c.args.names.now) (tree_of (s3.term a))) same
          (subst (IsWithin (length c.args.names.now)) (sym c.with_child.ensures.tree) within);
      later = later_then (later_then c.begin.ensures.later c.edit_along.ensures.later)
          c.with_child.ensures.later;
      held = omega (
        arith,
        rest_less c.args.names.now c.in-len1-up.len_at_least,
        c.begin.ensures.held,
        c.edit_along.ensures.held,
        c.with_child.ensures.held,
      );
      records = omega (
        arith,
        rest_less c.args.names.now c.in-len1-up.len_at_least,
        c.begin.ensures.records,
        c.edit_along.ensures.records,
        c.with_child.ensures.records,
      );
    }

pub with_child-requires : goal.with_child-requires
with_child-requires g t c =
    let s1 = g.R.RecordPool.shown c.begin.new.records in
    let s2 = g.R.RecordPool.shown c.edit_along.new.records in
    let child = c.in_ok-child.child in
    let s0 = g.R.RecordPool.shown c.args.records.now in
    let at = c.args.at in
    let first = c.begin.ensures.later in
    let less = rest_less c.args.names.now c.in-len1-up.len_at_least in
    let within = c.in_ok-edited.ensures.within c.in_ok-edited.edited refl in
    record {
      top = top_still s1 _ c.args.at c.edit_along.ensures.later
          (top_still _ s1 c.args.at c.begin.ensures.later c.requires.top);
      was = top_nodes s2 child
          (top_still s1 s2 child c.edit_along.ensures.later
          (c.in_ok-child.ensures.child child refl));
      there =
          let second = c.edit_along.ensures.later in
          let kept =
          top_same s1 s2 at second (top_still s0 s1 at first c.requires.top)
          ∙ top_same s0 s1 at first c.requires.top in
          child_same s1 s2 child second (c.in_ok-child.ensures.child child refl)
          ∙ c.in_ok-child.ensures.there child refl
          ∙ ap (λ (u : DocTree). child_of_name c.name-item.result u.kids) (sym kept);
      child = c.in_ok-edited.ensures.node c.in_ok-edited.edited refl;
      few = omega (arith, less, within.few, c.requires.few);
      low = omega (arith, less, within.low, c.requires.few);
      room =
          let n = c.name-item.result in
          let kept =
          top_same s1 s2 at c.edit_along.ensures.later (top_still s0 s1 at first c.requires.top)
          ∙ top_same s0 s1 at first c.requires.top in
          subst (λ (u : DocTree). child_of_name n u.kids ≡ None
          → kid_count u.kids < MOST_CHILDREN) (sym kept)
          (begun_room n (tree_under s0 at) _ c.in_ok-child.ensures.begun);
      places = omega (
        arith,
        rest_less c.args.names.now c.in-len1-up.len_at_least,
        c.requires.places,
        c.begin.ensures.held,
        c.begin.ensures.later.room,
        c.edit_along.ensures.held,
        c.edit_along.ensures.later.room,
      );
      records = omega (
        arith,
        rest_less c.args.names.now c.in-len1-up.len_at_least,
        c.requires.records,
        c.begin.ensures.records,
        c.edit_along.ensures.records,
      );
    }

pub returns-in_default-clause-within : goal.returns-in_default-clause-within
returns-in_default-clause-within g t c = λ x e.
    let s0 = g.R.RecordPool.shown c.args.records.now in
    let s1 = g.R.RecordPool.shown c.at_end.new.records in
    let within =
    within_made s0 c.args.at c.args.end (length c.args.names.now) c.requires.top c.requires.end in
    let same : c.at_end.result ≡ x = cc in
    subst (λ a. IsWithin (length c.args.names.now) (tree_of (s1.term a))) same
    (subst (IsWithin (length c.args.names.now)) (sym c.at_end.ensures.tree) within)

pub returns-in_err-child-clause-tree : goal.returns-in_err-child-clause-tree
returns-in_err-child-clause-tree g t c =
    let s0 = g.R.RecordPool.shown c.args.records.now in
    let fault = c.in_err-child.field-0.0 in
    let refused : Err fault
    ≡ edit_along (made_at s0 c.args.end) c.args.names.now (tree_under s0 c.args.at) =
    along_stop (made_at s0 c.args.end) c.args.names.now c.name-item.result
    (tree_under s0 c.args.at) fault c.in-len1-up.len_at_least c.name-item.is
    c.in_err-child.ensures.begun in
    search (rules, refused)

pub edit_along-requires : goal.edit_along-requires
edit_along-requires g t c κs within =
    let less = rest_less c.args.names.now c.in-len1-up.len_at_least in
    let end = end_still _ _ c.args.end c.begin.ensures.later c.requires.end in (
      omega (arith, less),
      (
        search rules,
        (
          search rules,
          (
            c.in_ok-child.ensures.child c.in_ok-child.child refl,
            (
              end,
              (
                omega (arith, less, c.requires.few),
                (
                  omega (
                    arith,
                    less,
                    c.requires.places,
                    c.begin.ensures.held,
                    c.begin.ensures.later.room,
                  ),
                  omega (arith, less, c.requires.records, c.begin.ensures.records),
                ),
              ),
            ),
          ),
        ),
      ),
    )
