use Rattle.std.proofs.Common.{◌≡◌, Some, refl, subst}
use Rattle.doc_edits.specs.Tops.{IsTop}
use Rattle.doc_edits.proofs.Lawful.{tree_child}
use Rattle.doc_edits.proofs.edits.begin.Goals as goal

pub returns-in-Some-find_child-clause-child : goal.returns-in-Some-find_child-clause-child
returns-in-Some-find_child-clause-child g c = λ x e.
    let s = g.R.RecordPool.shown c.find_child.new.records in
    let child = c.in-Some-find_child.child in
    let top = rw c.in-Some.is at c.requires.top in
    let found =
    tree_child s _ _ child top.node.lawful (c.in-Some-find_child.ensures.stands child refl)
    c.in-Some-find_child.ensures.child in
    let same : Some child ≡ x = cc in
    subst (IsTop s) same found

pub returns-in-None-clause-there : goal.returns-in-None-clause-there
returns-in-None-clause-there g c = λ x e.
    rw (c.begin_new.ensures.none x e, c.in-Some.is) c.in-None.ensures.child
