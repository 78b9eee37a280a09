use Rattle.std.proofs.Common.{◌≡◌, ◌<◌, ◌++◌, ◌∙◌, List, [], ◌∷◌, ap, arith, length, refl, sym}
use Rattle.std.specs.List.{AllZip}
use Rattle.std.specs.declared.rc.Rc.{Rc}
use Rattle.std.specs.declared.alloc.Global.{Global}
use Rattle.std.proofs.lemmas.Bool.{eqb-false, eqb-true}
use Rattle.doc_tree.specs.declared.chunk.Chunk.{Chunk}
use Rattle.doc_tree.specs.declared.chunk.Kid.{Kid}
use Rattle.doc_tree.specs.Tree.{no_kids, put_child}
use Rattle.doc_tree.specs.Rows.{join, row_of}
use Rattle.doc_tree.specs.Chunks.{kids_of, with_row, IsIn}
use Rattle.doc_tree.proofs.Chunks.{in_room, put_at, same_room}
use Rattle.doc_tree.proofs.kids.with_kid.Goals as goal

-- the first child of all
alone : (cs others all : List (Rc Chunk Global)) (new : Rc Chunk Global) → length cs ≡ 0
    → AllZip (λ c other. other.value ≡ c.value) cs others → all ≡ others ++ new ∷ []
    → all ≡ new ∷ []
alone [] [] all new none same e = e
alone [] (o ∷ others) all new none same e = absurd same
alone (c ∷ cs) others all new none same e = absurd (omega (arith, none))

put_alone : (cs : List (Rc Chunk Global)) (k : Rc Kid Global) (ks : List (Rc Kid Global))
    → length cs ≡ 0 → ks ≡ k ∷ []
    → join (row_of ks) no_kids ≡ put_child k.value.name k.value.tree (kids_of cs)
put_alone [] k ks none e = rw e refl
put_alone (c ∷ cs) k ks none e = absurd (omega (arith, none))

pub put_row-requires-clause-room : goal.put_row-requires-clause-room
put_row-requires-clause-room c =
    let len = eqb-false c.args.chunks.now.len 0 (sym c.is_empty.ensures ∙ c.if-is_empty.false) in
    let inside : c.args.place.chunk < length c.args.chunks.now.items =
    in_room c.args.kid.value.name _ _ (c.requires.place.chunk (omega (arith, len))) in
    same_room _ _ _ c.in_ok-all.ensures.same inside

pub put_row-requires-clause-chunks : goal.put_row-requires-clause-chunks
put_row-requires-clause-chunks c = c.in_ok-all.ensures.chunks

pub index-requires : goal.index-requires
index-requires c =
    let len = eqb-false c.args.chunks.now.len 0 (sym c.is_empty.ensures ∙ c.if-is_empty.false) in
    let inside : c.args.place.chunk < length c.args.chunks.now.items =
    in_room c.args.kid.value.name _ _ (c.requires.place.chunk (omega (arith, len))) in
    omega (arith, inside)

pub with_kid_in_row-requires : goal.with_kid_in_row-requires
with_kid_in_row-requires c =
    let len = eqb-false c.args.chunks.now.len 0 (sym c.is_empty.ensures ∙ c.if-is_empty.false) in
    let inside : c.args.place.chunk < length c.args.chunks.now.items =
    in_room c.args.kid.value.name _ _ (c.requires.place.chunk (omega (arith, len))) in
    rw c.deref.ensures (c.requires.place.kid c.index.result.now inside c.index.ensures)

pub returns-clause-chunks : goal.returns-clause-chunks
returns-clause-chunks c = c.in_ok-put_row.ensures.chunks

pub returns-clause-kids : goal.returns-clause-kids
returns-clause-kids c =
    let len = eqb-false c.args.chunks.now.len 0 (sym c.is_empty.ensures ∙ c.if-is_empty.false) in
    let n = c.args.kid.value.name in
    let d = c.args.kid.value.tree in
    let at = c.args.place.chunk in
    let cs = c.args.chunks.now.items in
    let here : IsIn n cs at = c.requires.place.chunk (omega (arith, len)) in
    c.in_ok-put_row.ensures.kids
    ∙ ap (with_row c.in_ok-all.all.items at) (c.in_ok-row.ensures
    ∙ ap (λ (chunk : Chunk). put_child n d (row_of chunk.row.items)) c.deref.ensures)
    ∙ put_at n d cs c.in_ok-all.all.items at c.index.result.now c.in_ok-all.ensures.same here
    c.index.ensures

pub make_chunk-requires : goal.make_chunk-requires
make_chunk-requires c = omega (arith, c.in_ok-push.ensures.len)

pub returns-then-is_empty-clause-chunks : goal.returns-then-is_empty-clause-chunks
returns-then-is_empty-clause-chunks c =
    let len = eqb-true c.args.chunks.now.len 0 (sym c.is_empty.ensures ∙ c.if-is_empty.true) in
    let new = c.in_ok-make_chunk.field-0 in
    let all : c.push-then-is_empty.new.self.items ≡ new ∷ [] =
    alone c.args.chunks.now.items _ _ new (omega (arith, len)) c.in_ok-all.ensures.same
    c.in_ok-push-2.ensures.items in
    rw all (c.in_ok-make_chunk.ensures.sound, tt)

pub returns-then-is_empty-clause-kids : goal.returns-then-is_empty-clause-kids
returns-then-is_empty-clause-kids c =
    let len = eqb-true c.args.chunks.now.len 0 (sym c.is_empty.ensures ∙ c.if-is_empty.true) in
    let none : length c.args.chunks.now.items ≡ 0 = omega (arith, len) in
    let new = c.in_ok-make_chunk.field-0 in
    let all : c.push-then-is_empty.new.self.items ≡ new ∷ [] =
    alone c.args.chunks.now.items _ _ new none c.in_ok-all.ensures.same
    c.in_ok-push-2.ensures.items in
    let row : new.value.row.items ≡ c.args.kid ∷ [] =
    c.in_ok-make_chunk.ensures.row ∙ c.in_ok-push.ensures.items
    ∙ ap (λ (ks : List (Rc Kid Global)). ks ++ c.args.kid ∷ []) c.new-row.ensures.items in
    rw all (put_alone c.args.chunks.now.items c.args.kid new.value.row.items none row)
