use Rattle.std.proofs.Common.{◌≡◌, ◌∙◌, ap, refl}
use Rattle.doc_tree.specs.declared.chunk.Kid.{Kid}
use Rattle.doc_tree.specs.Chunks.{kids_of}
use Rattle.doc_tree.proofs.Rising.{rising_put, room_put}
use Rattle.doc_tree.proofs.tree.put_kid.Goals as goal

pub returns : goal.returns
returns c =
    let name : c.in_ok-kid.kid.value.name ≡ c.args.name.now =
    ap (λ (kid : Kid). kid.name) c.in_ok-kid.ensures.ok ∙ c.in_ok-copy.ensures in
    let tree : c.in_ok-kid.kid.value.tree ≡ c.args.tree =
    ap (λ (kid : Kid). kid.tree) c.in_ok-kid.ensures.ok in
    rw (c.made.ensures, c.in_ok-copy-2.ensures, c.in_ok-kids.ensures.kids, name, tree) refl

pub made-requires-clause-chunks : goal.made-requires-clause-chunks
made-requires-clause-chunks c = c.in_ok-kids.ensures.chunks

pub made-requires-clause-rising : goal.made-requires-clause-rising
made-requires-clause-rising c =
    let kid = c.in_ok-kid.kid.value in
    rw c.in_ok-kids.ensures.kids
    (rising_put kid.name kid.tree (kids_of c.args.kids.now.items) c.requires.rising)

pub made-requires-clause-few : goal.made-requires-clause-few
made-requires-clause-few c =
    let name : c.in_ok-kid.kid.value.name ≡ c.args.name.now =
    ap (λ (kid : Kid). kid.name) c.in_ok-kid.ensures.ok ∙ c.in_ok-copy.ensures in
    rw (c.in_ok-kids.ensures.kids, name)
    (room_put c.args.name.now c.in_ok-kid.kid.value.tree (kids_of c.args.kids.now.items)
    c.requires.room c.requires.few)

pub with_kid-requires-clause-chunks : goal.with_kid-requires-clause-chunks
with_kid-requires-clause-chunks c = c.requires.chunks

pub with_kid-requires-clause-place : goal.with_kid-requires-clause-place
with_kid-requires-clause-place c =
    let name : c.in_ok-kid.kid.value.name ≡ c.args.name.now =
    ap (λ (kid : Kid). kid.name) c.in_ok-kid.ensures.ok ∙ c.in_ok-copy.ensures in
    rw name c.requires.place
