use Rattle.std.proofs.Common.{◌≡◌, ◌++◌, ◌∙◌, List, ap, arith, length, set, sym, take-append-drop}
use Rattle.std.specs.Prelude.{insert}
use Rattle.std.specs.List.{remove}
use Rattle.std.specs.declared.rc.Rc.{Rc}
use Rattle.std.specs.declared.alloc.Global.{Global}
use Rattle.std.proofs.lemmas.Bool.{eqb-false, eqb-true}
use Rattle.doc_tree.specs.declared.chunk.Kid.{Kid}
use Rattle.doc_tree.specs.Rows.{row_of}
use Rattle.doc_tree.specs.Chunks.{with_row}
use Rattle.doc_tree.proofs.Chunks.{chunks_insert, chunks_remove, chunks_set, cut_row, remove_row}
use Rattle.doc_tree.proofs.Chunks.{set_row}
use Rattle.doc_tree.proofs.kids.put_row.Goals as goal

pub returns-clause-kids : goal.returns-clause-kids
returns-clause-kids c =
    let cs = c.args.chunks.now.items in
    let low = c.in_ok-make_chunk.field-0 in
    let high = c.in_ok-chunks-2.field-0 in
    let written : c.insert.new.self.items ≡ insert (set cs c.args.at high) c.args.at low =
    c.in_ok-insert.ensures.items in
    let joined : low.value.row.items ++ high.value.row.items ≡ c.args.row.items =
    cc (
      take-append-drop 8 c.args.row.items,
      c.in_ok-chunks-2.ensures.row,
      c.in_ok-make_chunk.ensures.row,
      c.in_ok-later.ensures.items,
      c.in_ok-later.ensures.tail,
    ) in
    rw written (cut_row cs c.args.at low high c.requires.room
    ∙ ap (λ row. with_row cs c.args.at (row_of row)) joined)

pub returns-clause-chunks : goal.returns-clause-chunks
returns-clause-chunks c =
    let cs = c.args.chunks.now.items in
    let low = c.in_ok-make_chunk.field-0 in
    let high = c.in_ok-chunks-2.field-0 in
    let written : c.insert.new.self.items ≡ insert (set cs c.args.at high) c.args.at low =
    c.in_ok-insert.ensures.items in
    rw written (chunks_insert (set cs c.args.at high) c.args.at low
    (chunks_set cs c.args.at high c.requires.chunks c.in_ok-chunks-2.ensures.sound)
    c.in_ok-make_chunk.ensures.sound)

pub returns-then-is_empty : goal.returns-then-is_empty
returns-then-is_empty c =
    let cs = c.args.chunks.now.items in
    let none : length c.args.row.items ≡ 0 =
    omega (arith, eqb-true c.args.row.len 0 (sym c.is_empty.ensures ∙ c.if-is_empty.true)) in
    let gone : c.remove.new.self.items ≡ remove cs c.args.at = c.remove.ensures.items in
    record {
      chunks = rw gone (chunks_remove cs c.args.at c.requires.room c.requires.chunks);
      kids = rw gone (remove_row cs c.args.at c.args.row.items c.requires.room none);
    }

pub returns-then-len-le-MOST_KIDS : goal.returns-then-len-le-MOST_KIDS
returns-then-len-le-MOST_KIDS c =
    let cs = c.args.chunks.now.items in
    let new = c.in_ok-chunks.field-0 in
    record {
      chunks = chunks_set cs c.args.at new c.requires.chunks c.in_ok-chunks.ensures.sound;
      kids = set_row cs c.args.at new c.requires.room
          ∙ ap (λ (row : List (Rc Kid Global)). with_row cs c.args.at (row_of row))
          c.in_ok-chunks.ensures.row;
    }

pub make_chunk-requires : goal.make_chunk-requires
make_chunk-requires c =
    let some : c.args.row.len ≡ 0 → ⊥ =
    eqb-false c.args.row.len 0 (sym c.is_empty.ensures ∙ c.if-is_empty.false) in
    omega (arith, some)

pub make_chunk-requires-2 : goal.make_chunk-requires-2
make_chunk-requires-2 c = omega (arith, c.in_ok-later.ensures.tail_len)
