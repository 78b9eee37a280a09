use Rattle.std.proofs.Common.{◌≡◌, ◌+◌, ◌++◌, drop, append_assoc, sym, ap, ◌∙◌}
use Rattle.doc_tree.specs.Tree.{names_of}
use Rattle.doc_tree.specs.Rows.{row_of}
use Rattle.doc_tree.specs.Chunks.{kids_of}
use Rattle.doc_tree.proofs.Chunks.{kids_drop}
use Rattle.doc_tree.proofs.Joined.{names_join}
use Rattle.doc_tree.proofs.kids.names_of.Goals as goal

pub loop-chunk-preserved : goal.loop-chunk-preserved
loop-chunk-preserved c =
    let row = row_of c.chunk-item.result.value.row.items in
    let rest = kids_of (drop (c.loop-chunk.chunk-index + 1) c.args.chunks.now) in
    let step = kids_drop c.args.chunks.now c.loop-chunk.chunk-index c.chunk-item.result
    c.loop-chunk-test.true c.chunk-item.is in
    let pushed : c.push_names.new.names ≡ c.loop-chunk.names ++ names_of row =
    cc (c.in_ok-push_names.ensures) in
    ap (λ names. names ++ names_of rest) pushed
    ∙ append_assoc c.loop-chunk.names (names_of row) (names_of rest)
    ∙ ap (λ names. c.loop-chunk.names ++ names) (sym (names_join row rest) ∙ ap names_of (sym step))
    ∙ c.loop-chunk.invariant
