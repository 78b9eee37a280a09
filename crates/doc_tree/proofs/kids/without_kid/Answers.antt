use Rattle.std.proofs.Common.{◌≡◌, ◌∙◌, ℕ, List, [], ◌∷◌, ap, arith, length, refl, sym}
use Rattle.std.specs.declared.rc.Rc.{Rc}
use Rattle.std.specs.declared.alloc.Global.{Global}
use Rattle.std.proofs.lemmas.Bool.{eqb-false, eqb-true}
use Rattle.doc_tree.specs.declared.chunk.Chunk.{Chunk}
use Rattle.doc_tree.specs.Tree.{IsRising}
use Rattle.doc_tree.specs.Edits.{delete_child}
use Rattle.doc_tree.specs.Rows.{row_of}
use Rattle.doc_tree.specs.Chunks.{kids_of, with_row, IsIn}
use Rattle.doc_tree.proofs.Chunks.{in_delete, in_rising, in_room}
use Rattle.doc_tree.proofs.kids.without_kid.Goals as goal

delete_none : (n : List ℕ) (cs : List (Rc Chunk Global)) → length cs ≡ 0
    → kids_of cs ≡ delete_child n (kids_of cs)
delete_none n [] none = refl
delete_none n (c ∷ cs) none = absurd (omega (arith, none))

pub chunk_of-at-requires-clause-some : goal.chunk_of-at-requires-clause-some
chunk_of-at-requires-clause-some c =
    let len = eqb-false c.in_ok-all.all.len 0 (sym c.is_empty.ensures ∙ c.if-is_empty.false) in
    omega (arith, len, c.deref.ensures.len)

pub chunk_of-at-requires-clause-chunks : goal.chunk_of-at-requires-clause-chunks
chunk_of-at-requires-clause-chunks c = rw c.deref.ensures.value c.in_ok-all.ensures.chunks

pub chunk_of-at-requires-clause-rising : goal.chunk_of-at-requires-clause-rising
chunk_of-at-requires-clause-rising c =
    rw (c.deref.ensures.value, c.in_ok-all.ensures.kids) c.requires.rising

pub index-requires : goal.index-requires
index-requires c =
    let here : IsIn c.args.name.now c.in_ok-all.all.items c.chunk_of-at.result =
    rw c.deref.ensures.value at c.chunk_of-at.ensures in
    omega (arith, in_room c.args.name.now c.in_ok-all.all.items c.chunk_of-at.result here)

pub without_kid_in_row-requires : goal.without_kid_in_row-requires
without_kid_in_row-requires c =
    let here : IsIn c.args.name.now c.in_ok-all.all.items c.chunk_of-at.result =
    rw c.deref.ensures.value at c.chunk_of-at.ensures in
    let rising : IsRising (kids_of c.in_ok-all.all.items) =
    rw c.in_ok-all.ensures.kids c.requires.rising in
    rw c.deref-2.ensures
    (in_rising c.args.name.now c.in_ok-all.all.items c.chunk_of-at.result c.index.result.now
    here c.index.ensures rising)

pub put_row-requires-clause-chunks : goal.put_row-requires-clause-chunks
put_row-requires-clause-chunks c = c.in_ok-all.ensures.chunks

pub put_row-requires-clause-room : goal.put_row-requires-clause-room
put_row-requires-clause-room c =
    let here : IsIn c.args.name.now c.in_ok-all.all.items c.chunk_of-at.result =
    rw c.deref.ensures.value at c.chunk_of-at.ensures in
    in_room c.args.name.now c.in_ok-all.all.items c.chunk_of-at.result here

pub returns-then-is_empty-clause-chunks : goal.returns-then-is_empty-clause-chunks
returns-then-is_empty-clause-chunks c = c.in_ok-all.ensures.chunks

pub returns-then-is_empty-clause-kids : goal.returns-then-is_empty-clause-kids
returns-then-is_empty-clause-kids c =
    let len = eqb-true c.in_ok-all.all.len 0 (sym c.is_empty.ensures ∙ c.if-is_empty.true) in
    delete_none c.args.name.now c.in_ok-all.all.items (omega (arith, len))
    ∙ ap (delete_child c.args.name.now) c.in_ok-all.ensures.kids

pub returns-clause-chunks : goal.returns-clause-chunks
returns-clause-chunks c = c.in_ok-put_row.ensures.chunks

pub returns-clause-kids : goal.returns-clause-kids
returns-clause-kids c =
    let n = c.args.name.now in
    let at = c.chunk_of-at.result in
    let cs = c.in_ok-all.all.items in
    let here : IsIn n cs at = rw c.deref.ensures.value at c.chunk_of-at.ensures in
    c.in_ok-put_row.ensures.kids
    ∙ ap (with_row cs at) (c.in_ok-row.ensures
    ∙ ap (λ (chunk : Chunk). delete_child n (row_of chunk.row.items)) c.deref-2.ensures)
    ∙ in_delete n cs at c.index.result.now here c.index.ensures
    ∙ ap (delete_child n) c.in_ok-all.ensures.kids
