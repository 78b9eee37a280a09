use Rattle.std.proofs.Common.{◌∙◌, ap}
use Rattle.client_session.proofs.Editing.{edits_late, rests_edits, still_then}
use Rattle.client_session.proofs.committing.attached.Goals as goal
use Rattle.doc_model.specs.Answers.{attached}
use Rattle.doc_tree.specs.Edits.{attach}
use Rattle.doc_tree.specs.Tree.{DocTree}

pub returns-in-Some-clause-tree : goal.returns-in-Some-clause-tree
returns-in-Some-clause-tree g c =
    let h = g.H.ClientHeap in
    let before = h.shown c.args.heap.now in
    let now = h.shown c.node.new.self in
    let to = c.args.to.now in
    let sub = now.tree c.in-Some.sub in
    c.attach-edited.ensures.tree
    ∙ ap (λ (d : DocTree). attach to sub d)
    (c.node.ensures.still.trees c.args.root c.requires.node)
    ∙ ap (attached to (before.tree c.args.root)) c.in-Some.ensures.tree

pub returns-in-Some-clause-edits : goal.returns-in-Some-clause-edits
returns-in-Some-clause-edits g c =
    edits_late 8 c.node.ensures.pass c.node.ensures.rests c.attach-edited.ensures.edits

pub returns-in-Some-clause-still : goal.returns-in-Some-clause-still
returns-in-Some-clause-still g c =
    still_then c.node.ensures.still c.attach-edited.ensures.still

pub returns-in-None-clause-tree : goal.returns-in-None-clause-tree
returns-in-None-clause-tree g c =
    let before = g.H.ClientHeap.shown c.args.heap.now in
    ap (attached c.args.to.now (before.tree c.args.root)) c.in-None.ensures.tree

pub returns-in-None-clause-edits : goal.returns-in-None-clause-edits
returns-in-None-clause-edits g c = rests_edits 8 c.node.ensures.pass c.node.ensures.rests
