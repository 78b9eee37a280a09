use Rattle.std.proofs.Common.{◌≡◌, ap, ◌∙◌, arith}
use Rattle.std.proofs.lemmas.Bool.{lt-ltb, ltb-true}
use Rattle.doc_tree.specs.declared.tree.TheConstants.Tree.{MOST_CHILDREN}
use Rattle.doc_tree.specs.Tree.{kid_count}
use Rattle.doc_edits.specs.Tops.{row_of}
use Rattle.doc_edits.proofs.Counted.{row_same}
use Rattle.doc_edits.proofs.rows.has_room.Goals as goal

pub returns-clause-room : goal.returns-clause-room
returns-clause-room g c =
    let len = c.row_len.result in
    let all : len ≡ kid_count (row_of (g.R.RecordPool.shown c.args.records.now) c.args.top) =
    c.row_len.ensures.count
    ∙ ap kid_count (row_same _ _ c.args.top c.side_height.ensures.later c.requires.row) in (
      λ is. omega (arith, all, ltb-true len MOST_CHILDREN is),
      λ few. lt-ltb len MOST_CHILDREN (omega (arith, all)),
    )
