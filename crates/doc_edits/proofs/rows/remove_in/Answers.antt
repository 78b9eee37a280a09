use Rattle.std.proofs.Common.{◌∙◌, IsSome, ap, arith, subst, sym}
use Rattle.doc_tree.specs.Edits.{delete_child}
use Rattle.doc_tree.specs.Tree.{IsRising, Kids, child, kid_count}
use Rattle.doc_edits.proofs.Pools.{kept_self, kids_row, row_balanced, row_kids, row_made}
use Rattle.doc_edits.proofs.Pools.{row_stands}
use Rattle.doc_edits.proofs.rows.remove_in.Goals as goal

pub remove-requires-clause-stands : goal.remove-requires-clause-stands
remove-requires-clause-stands g c =
    row_stands g.R.RecordPool.shown c.args.pool.now c.args.top _ c.top_of.ensures c.requires.row
    (omega (arith, c.requires.places))

pub remove-requires-clause-balanced : goal.remove-requires-clause-balanced
remove-requires-clause-balanced g c =
    row_balanced g.R.RecordPool.shown c.args.pool.now c.args.top _ c.top_of.ensures c.requires.row

pub returns-clause-held : goal.returns-clause-held
returns-clause-held g c =
    let kept = c.remove.ensures.later.still_kept c.args.pool.now (kept_self _ _) in
    omega (arith, c.remove.ensures.places, kept.later.room, c.requires.places)

pub remove-requires-clause-rising : goal.remove-requires-clause-rising
remove-requires-clause-rising g c =
    subst IsRising
    (sym (row_kids g.R.RecordPool.shown c.args.pool.now c.args.top _ c.top_of.ensures))
    c.requires.row.rising

pub remove-requires-clause-few : goal.remove-requires-clause-few
remove-requires-clause-few g c =
    let kids = row_kids g.R.RecordPool.shown c.args.pool.now c.args.top _ c.top_of.ensures in
    omega (arith, ap kid_count kids, c.requires.row.few)

pub remove-requires-clause-listed : goal.remove-requires-clause-listed
remove-requires-clause-listed g c =
    subst (λ (k : Kids). IsSome (child c.args.name.now k))
    (sym (row_kids g.R.RecordPool.shown c.args.pool.now c.args.top _ c.top_of.ensures))
    c.requires.listed

pub returns-clause-kids : goal.returns-clause-kids
returns-clause-kids g c =
    kids_row g.R.RecordPool.shown c.remove.new.pool _ _ c.part_of.ensures ∙ c.remove.ensures.kids
    ∙ ap (delete_child c.args.name.now)
    (row_kids g.R.RecordPool.shown c.args.pool.now c.args.top _ c.top_of.ensures)

pub returns-clause-row : goal.returns-clause-row
returns-clause-row g c =
    row_made g.R.RecordPool.shown c.remove.new.pool _ _ c.part_of.ensures c.remove.ensures.stands
    c.remove.ensures.rising c.remove.ensures.few

pub returns-clause-kept : goal.returns-clause-kept
returns-clause-kept g c = c.remove.ensures.later.still_kept c.args.pool.now (kept_self _ _)
