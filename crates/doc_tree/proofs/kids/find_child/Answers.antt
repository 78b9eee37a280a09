use Rattle.std.proofs.Common.{◌∙◌, List, ap, sym}
use Rattle.std.specs.declared.rc.Rc.{Rc}
use Rattle.std.specs.declared.alloc.Global.{Global}
use Rattle.doc_tree.specs.declared.chunk.Chunk.{Chunk}
use Rattle.doc_tree.specs.declared.chunk.Kid.{Kid}
use Rattle.doc_tree.specs.Tree.{child}
use Rattle.doc_tree.specs.Rows.{row_of}
use Rattle.doc_tree.proofs.Chunks.{in_child, in_rising}
use Rattle.doc_tree.proofs.kids.find_child.Goals as goal

pub find_in_row-kid-requires : goal.find_in_row-kid-requires
find_in_row-kid-requires c =
    rw (c.deref-2.ensures.value, c.deref.ensures)
    (in_rising c.args.name.now c.args.chunks.now c.chunk_of-chunk.result
    c.index-chunks-chunk.result c.chunk_of-chunk.ensures c.index-chunks-chunk.is
    c.requires.rising)

pub returns-clause-child : goal.returns-clause-child
returns-clause-child c =
    let n = c.args.name.now in
    c.find_in_row-kid.ensures.tree
    ∙ ap (λ (row : List (Rc Kid Global)). child n (row_of row)) c.deref-2.ensures.value
    ∙ ap (λ (chunk : Chunk). child n (row_of chunk.row.items)) c.deref.ensures
    ∙ sym (in_child n c.args.chunks.now c.chunk_of-chunk.result c.index-chunks-chunk.result
    c.chunk_of-chunk.ensures c.index-chunks-chunk.is)
