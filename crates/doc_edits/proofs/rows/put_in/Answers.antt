use Rattle.std.proofs.Common.{◌≡◌, ◌<◌, ◌∙◌, None, ap, arith, subst, sym}
use Rattle.doc_tree.specs.declared.tree.TheConstants.Tree.{MOST_CHILDREN}
use Rattle.doc_tree.specs.Tree.{IsRising, Kids, child, kid_count, put_child}
use Rattle.doc_records.specs.Trees.{tree_of}
use Rattle.doc_edits.proofs.Pools.{kept_self, row_balanced, row_kids, row_stands}
use Rattle.doc_edits.proofs.rows.put_in.Goals as goal

pub put-requires-clause-stands : goal.put-requires-clause-stands
put-requires-clause-stands g c =
    row_stands g.R.RecordPool.shown c.args.pool.now c.args.top _ c.top_of.ensures c.requires.row
    (omega (arith, c.requires.places))

pub put-requires-clause-balanced : goal.put-requires-clause-balanced
put-requires-clause-balanced g c =
    row_balanced g.R.RecordPool.shown c.args.pool.now c.args.top _ c.top_of.ensures c.requires.row

pub put-requires-clause-rising : goal.put-requires-clause-rising
put-requires-clause-rising g c =
    subst IsRising
    (sym (row_kids g.R.RecordPool.shown c.args.pool.now c.args.top _ c.top_of.ensures))
    c.requires.row.rising

pub put-requires-clause-few : goal.put-requires-clause-few
put-requires-clause-few g c =
    let kids = row_kids g.R.RecordPool.shown c.args.pool.now c.args.top _ c.top_of.ensures in
    omega (arith, ap kid_count kids, c.requires.row.few)

pub put-requires-clause-child : goal.put-requires-clause-child
put-requires-clause-child g c = record {
  node = c.requires.child;
  place = omega (arith, c.requires.places);
}

pub put-requires-clause-room : goal.put-requires-clause-room
put-requires-clause-room g c =
    subst
    (λ (k : Kids). child c.args.name.now k ≡ None → kid_count k < MOST_CHILDREN)
    (sym (row_kids g.R.RecordPool.shown c.args.pool.now c.args.top _ c.top_of.ensures))
    c.requires.room

pub returns-clause-kids : goal.returns-clause-kids
returns-clause-kids g c =
    let tree = tree_of ((g.R.RecordPool.shown c.args.pool.now.records.now).term c.args.child) in
    c.put.ensures.kids
    ∙ ap (put_child c.args.name.now tree)
    (row_kids g.R.RecordPool.shown c.args.pool.now c.args.top _ c.top_of.ensures)

pub returns-clause-row : goal.returns-clause-row
returns-clause-row g c = record {
  stands = (c.put.ensures.stands.stands, c.put.ensures.stands.five);
  entries = c.put.ensures.stands.entries;
  rising = c.put.ensures.rising;
  few = c.put.ensures.few;
}

pub returns-clause-kept : goal.returns-clause-kept
returns-clause-kept g c = c.put.ensures.later.still_kept c.args.pool.now (kept_self _ _)

pub returns-clause-held : goal.returns-clause-held
returns-clause-held g c =
    let kept = c.put.ensures.later.still_kept c.args.pool.now (kept_self _ _) in
    omega (arith, c.put.ensures.places, kept.later.room, c.requires.places)
