use Rattle.std.proofs.Common.{◌+◌, ap, arith, drop, length}
use Rattle.doc_tree.specs.declared.chunk.Chunk.{Chunk}
use Rattle.doc_tree.specs.Tree.{kid_count}
use Rattle.doc_tree.specs.Rows.{row_of}
use Rattle.doc_tree.specs.Chunks.{kids_of}
use Rattle.doc_tree.proofs.Chunks.{kids_drop}
use Rattle.doc_tree.proofs.Joined.{count_join}
use Rattle.doc_tree.proofs.Places.{count_kids}
use Rattle.doc_tree.proofs.kids.count.Goals as goal

pub loop-chunk-preserved : goal.loop-chunk-preserved
loop-chunk-preserved c =
    let cs = c.args.chunks.now in
    let i = c.loop-chunk.chunk-index in
    let row = c.chunk-item.result.value.row.items in
    omega (
      arith,
      ap kid_count
          (kids_drop cs i c.chunk-item.result c.loop-chunk-test.true c.chunk-item.is),
      count_join (row_of row) (kids_of (drop (i + 1) cs)),
      count_kids row,
      ap (λ (chunk : Chunk). length chunk.row.items) c.deref.ensures,
    )
