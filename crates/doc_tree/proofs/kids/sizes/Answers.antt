use Rattle.std.proofs.Common.{◌+◌, ap, arith, drop}
use Rattle.doc_tree.specs.declared.chunk.Chunk.{Chunk}
use Rattle.doc_tree.specs.Tree.{nodes_below, height_below}
use Rattle.doc_tree.specs.Rows.{row_of}
use Rattle.doc_tree.specs.Chunks.{kids_of}
use Rattle.doc_tree.specs.TreeFalls.{nodes_join}
use Rattle.doc_tree.proofs.Chunks.{kids_drop, chunks_drop}
use Rattle.doc_tree.proofs.Joined.{height_join}
use Rattle.doc_tree.proofs.kids.sizes.Goals as goal

pub loop-chunk-preserved : goal.loop-chunk-preserved
loop-chunk-preserved c =
    let cs = c.args.chunks.now in
    let i = c.loop-chunk.chunk-index in
    let row = c.chunk-item.result.value.row.items in
    let step = kids_drop cs i c.chunk-item.result c.loop-chunk-test.true c.chunk-item.is in
    let sound = chunks_drop cs i c.chunk-item.result c.loop-chunk-test.true c.chunk-item.is
    c.loop-chunk.invariant.chunks in
    record {
      chunks = sound.1;
      nodes_fit = omega arith;
      levels_fit = omega arith;
      nodes = omega (
        arith,
        ap nodes_below step,
        nodes_join (row_of row) (kids_of (drop (i + 1) cs)),
        sound.0.counted,
        ap (λ (chunk : Chunk). chunk.nodes) c.deref.ensures,
      );
      levels = omega (
        arith,
        ap height_below step,
        height_join (row_of row) (kids_of (drop (i + 1) cs)),
        sound.0.high,
        ap (λ (chunk : Chunk). chunk.levels) c.deref-in-loop-chunk.ensures,
      );
    }
